-- The values of enumerations: sets with one text more, and lists with one set more.
use Rattle.std.proofs.Common.{◌≡◌, ℕ, ◌+◌, ◌<◌, ◌≤◌, zero, suc, max, nat_le, Bool, true, false, cond, ◌||◌, ◌&&◌, arith, ◌++◌, List, [], ◌∷◌, bytes_eq, length, take, get_or, slice_get, refl, sym, ap, subst, ◌∙◌, Bor}
use Rattle.std.proofs.Math.Bool.{and-false}
use Rattle.std.proofs.lemmas.List.{take_more}
use Rattle.std.proofs.lemmas.List.Folds.{list_any-append}
use Rattle.std.proofs.lemmas.Slice.Eq.{bytes_eq-Decides}
use Rattle.std.specs.List.{list_any}
use Rattle.indexmap.specs.IndexSet.{IndexSet, contains_by}
use Rattle.widl_idl.specs.declared.enumeration.Choice.{Choice}
use Rattle.widl_overload.specs.rules.DefaultRules.{has_value}
use Rattle.widl_fits.specs.ChoiceValues.{KeepValues, has_text, holds, is_kept}
use Rattle.widl_fits.specs.declared.choice_values.ChoiceValues.{ChoiceValues}

-- the texts of a set with one text more
pub text_added : {S : Type 0} (old new : IndexSet (Bor (List ℕ)) S) (text other : List ℕ) → contains_by (λ k. bytes_eq other k.now) new ≡ cond (bytes_eq text other) true (contains_by (λ k. bytes_eq other k.now) old) → has_text new other ≡ (has_text old other || bytes_eq text other)
text_added old new text other e = grind (arith, e)

-- the longest of the values, one more of them
pub longest_more : (values : List (List ℕ)) (i : ℕ) (value : List ℕ) (longest now : ℕ) → i < length values → value ≡ get_or values i value → now ≡ max longest (length value)
    → ((text : List ℕ) → list_any (λ v. bytes_eq v text) (take i values) ≡ true → length text ≤ longest) → (text : List ℕ) → list_any (λ v. bytes_eq v text) (take (i + 1) values) ≡ true → length text ≤ now
longest_more values i value longest now below is greatest known text e = by_last (bytes_eq value text) refl (list_any (λ v. bytes_eq v text) (take i values)) refl (sym (ap (list_any (λ v. bytes_eq v text)) (take_more values i value below ∙ ap (λ v. take i values ++ v ∷ []) (sym is)) ∙ list_any-append (λ v. bytes_eq v text) (take i values) (value ∷ [])) ∙ e)
  where
    by_last : (b : Bool) → bytes_eq value text ≡ b → (a : Bool) → list_any (λ v. bytes_eq v text) (take i values) ≡ a → (a || (b || false)) ≡ true → length text ≤ now
    by_last true same a any h = let equal : value ≡ text = grind (arith, bytes_eq-Decides value text) in let size = ap length equal in omega (arith, size, greatest)
    by_last false other true any h = let within = known text any in omega (arith, within, greatest)
    by_last false other false any h = absurd (cc)

-- a text that is one of the values is no longer than the longest
pub held_by_length : (size longest : ℕ) (has any : Bool) → has ≡ any → (any ≡ true → size ≤ longest) → (nat_le size longest && has) ≡ any
held_by_length size longest has true e within = let l = within refl in grind (arith, e, l)
held_by_length size longest has false e within = ap (λ b. nat_le size longest && b) e ∙ and-false (nat_le size longest)

-- one set more
pub kept_push : (sets : List ChoiceValues) (choices : List Choice) (set : ChoiceValues) (choice : Choice) → KeepValues sets choices → ((text : List ℕ) → holds set text ≡ list_any (λ v. bytes_eq v text) choice.values) → KeepValues (sets ++ set ∷ []) (choices ++ choice ∷ [])
kept_push [] [] set choice k h = (h, tt)
kept_push [] (c ∷ choices) set choice k h = absurd k
kept_push (s ∷ sets) [] set choice k h = absurd k
kept_push (s ∷ sets) (c ∷ choices) set choice k h = (k.0, kept_push sets choices set choice k.1 h)

-- the set of a number has the values of the enumeration of that number
pub kept_at : (sets : List ChoiceValues) (choices : List Choice) → KeepValues sets choices → (n : ℕ) (text : List ℕ) → is_kept (slice_get sets n) text ≡ has_value text (slice_get choices n)
kept_at [] [] k n text = refl
kept_at [] (c ∷ choices) k n text = absurd k
kept_at (s ∷ sets) [] k n text = absurd k
kept_at (s ∷ sets) (c ∷ choices) k zero text = k.0 text
kept_at (s ∷ sets) (c ∷ choices) k (suc n) text = kept_at sets choices k.1 n text

-- one enumeration more, as a loop over them has it
pub kept_step : (sets new : List ChoiceValues) (choices : List Choice) (i : ℕ) (choice : Choice) (set : ChoiceValues) (values : List (List ℕ)) → i < length choices → choice ≡ get_or choices i choice → new ≡ sets ++ set ∷ [] → values ≡ choice.values
    → ((text : List ℕ) → holds set text ≡ list_any (λ v. bytes_eq v text) values) → KeepValues sets (take i choices) → KeepValues new (take (i + 1) choices)
kept_step sets new choices i choice set values below is pushed listed has k =
    subst (KeepValues new) (sym (take_more choices i choice below ∙ ap (λ c. take i choices ++ c ∷ []) (sym is)))
    (subst (λ ss. KeepValues ss (take i choices ++ choice ∷ [])) (sym pushed)
    (kept_push sets (take i choices) set choice k (λ text. has text ∙ ap (list_any (λ v. bytes_eq v text)) listed)))
