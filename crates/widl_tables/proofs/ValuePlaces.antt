-- The values of enumerations: one value more, and one enumeration more.
use Rattle.std.proofs.Common.{◌≡◌, ℕ, ◌+◌, ◌<◌, zero, suc, Bool, true, false, cond, ◌++◌, List, [], ◌∷◌, bytes_eq, length, take, get_or, slice_get, Option, None, Some, arith, refl, sym, ap, subst, ◌∙◌}
use Rattle.std.proofs.lemmas.List.{take_more, length-take}
use Rattle.std.specs.List.{position_from}
use Rattle.std.specs.Map.{lookup}
use Rattle.std.specs.Prelude.{option_and_then}
use Rattle.widl_idl.specs.declared.enumeration.Choice.{Choice}
use Rattle.widl_scalar.specs.Enumerations.{place_of_text, told_place, value_place}
use Rattle.widl_tables.specs.ValuePlaces.{Hold, Places, noted}

-- 1. Of one enumeration

position_by : (b : Bool) (k n : ℕ) (later found : Option ℕ) (last : Bool) → later ≡ noted found last (k + 1 + n) → cond b (Some k) later ≡ noted (cond b (Some k) found) last (k + suc n)
position_by true k n later found last h = refl
position_by false k n later found last h = h ∙ ap (noted found last) (omega arith)

-- one text more
position_more : (test : List ℕ → Bool) (k : ℕ) (texts : List (List ℕ)) (text : List ℕ) → position_from test k (texts ++ text ∷ []) ≡ noted (position_from test k texts) (test text) (k + length texts)
position_more test k [] text = ap (λ n. cond (test text) (Some n) None) (omega arith)
position_more test k (t ∷ texts) text = position_by (test t) k (length texts) (position_from test (k + 1) (texts ++ text ∷ [])) (position_from test (k + 1) texts) (test text) (position_more test (k + 1) texts text)

-- the texts so far and one more have their first places
pub places_more : (old new : Places) (texts : List (List ℕ)) (i : ℕ) (text : List ℕ) → i < length texts → text ≡ get_or texts i text → ((other : List ℕ) → lookup (bytes_eq other) new ≡ noted (lookup (bytes_eq other) old) (bytes_eq text other) i)
    → ((other : List ℕ) → lookup (bytes_eq other) old ≡ place_of_text (take i texts) other) → (other : List ℕ) → lookup (bytes_eq other) new ≡ place_of_text (take (i + 1) texts) other
places_more old new texts i text below is added so other =
    let size : 0 + length (take i texts) ≡ i = omega (arith, length-take i texts) in
    added other ∙ ap (λ found. noted found (bytes_eq text other) i) (so other)
    ∙ ap (noted (place_of_text (take i texts) other) (bytes_eq text other)) (sym size)
    ∙ sym (ap (λ list. place_of_text list other) (take_more texts i text below ∙ ap (λ t. take i texts ++ t ∷ []) (sym is)) ∙ position_more (λ value. bytes_eq value other) 0 (take i texts) text)

-- 2. Of each

hold_push : (all : List Places) (choices : List Choice) (places : Places) (choice : Choice) → Hold all choices → ((text : List ℕ) → lookup (bytes_eq text) places ≡ place_of_text choice.values text) → Hold (all ++ places ∷ []) (choices ++ choice ∷ [])
hold_push [] [] places choice k h = (h, tt)
hold_push [] (c ∷ choices) places choice k h = absurd k
hold_push (p ∷ all) [] places choice k h = absurd k
hold_push (p ∷ all) (c ∷ choices) places choice k h = (k.0, hold_push all choices places choice k.1 h)

-- one enumeration more
pub hold_more : (all new : List Places) (choices : List Choice) (i : ℕ) (choice : Choice) (places : Places) (values : List (List ℕ)) → i < length choices → choice ≡ get_or choices i choice → new ≡ all ++ places ∷ [] → values ≡ choice.values
    → ((text : List ℕ) → lookup (bytes_eq text) places ≡ place_of_text values text) → Hold all (take i choices) → Hold new (take (i + 1) choices)
hold_more all new choices i choice places values below is pushed listed has k =
    subst (Hold new) (sym (take_more choices i choice below ∙ ap (λ c. take i choices ++ c ∷ []) (sym is)))
    (subst (λ list. Hold list (take i choices ++ choice ∷ [])) (sym pushed)
    (hold_push all (take i choices) places choice k (λ text. has text ∙ ap (λ v. place_of_text v text) listed)))

-- the place of a text among the values of the enumeration of a number
pub hold_at : (all : List Places) (choices : List Choice) → Hold all choices → (n : ℕ) (text : List ℕ) → option_and_then (λ places. option_and_then told_place (lookup (bytes_eq text) places)) (slice_get all n) ≡ value_place choices n text
hold_at [] [] k n text = refl
hold_at [] (c ∷ choices) k n text = absurd k
hold_at (p ∷ all) [] k n text = absurd k
hold_at (p ∷ all) (c ∷ choices) k zero text = ap (option_and_then told_place) (k.0 text)
hold_at (p ∷ all) (c ∷ choices) k (suc n) text = hold_at all choices k.1 n text
