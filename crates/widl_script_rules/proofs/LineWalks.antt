-- The first place of several at which lines break a rule, line by line.
use Rattle.std.proofs.Common.{◌≡◌, ℕ, zero, suc, ◌+◌, ◌<◌, Bool, true, false, List, [], ◌∷◌, ◌++◌, length, take, slice_get, Contains, Option, Some, None, refl, sym, ◌∙◌, ap, subst, arith, ◌⊎◌, inl, inr, nat_lt, ltb-true, ltb-false}
use Rattle.std.proofs.lemmas.Option.{get_or_from_slice_get, slice_get-get_or, slice_get_within}
use Rattle.widl_first.specs.Keys.{first_of, Either, IsFirst}
use Rattle.widl_first.proofs.KeyFirsts.{first_either, first_same}
use Rattle.widl_lines.specs.declared.script_place.ScriptPlace.{ScriptPlace}
use Rattle.widl_lines.specs.Blocks.{first_word}
use Rattle.widl_lines.specs.TextBreaks.{Line}
use Rattle.widl_script_rules.specs.LeastBreak.{place_key}
use Rattle.widl_script_rules.specs.Standings.{Standing, around_after, standing_in, standings}
use Rattle.widl_script_rules.specs.Surroundings.{around_at, open_after}
use Rattle.widl_script_rules.proofs.FirstPlaces.{standing_at}

-- 1. Lists

pub contains_at : {X : Type 0} (xs : List X) (k : ℕ) (x : X) → slice_get xs k ≡ Some x → Contains xs x
contains_at xs k x e = (k, slice_get_within xs k x e, get_or_from_slice_get xs k x x e)

pub at_contained : {X : Type 0} (xs : List X) (x : X) → Contains xs x → (k : ℕ) × (slice_get xs k ≡ Some x)
at_contained xs x h = (h.0, slice_get-get_or xs h.0 x h.1 ∙ ap Some h.2)

pub pushed_cases : {X : Type 0} (xs : List X) (x : X) (k : ℕ) (y : X) → slice_get (xs ++ x ∷ []) k ≡ Some y → (slice_get xs k ≡ Some y) ⊎ ((k ≡ length xs) × (x ≡ y))
pushed_cases [] x zero y e = inr (refl, cc)
pushed_cases [] x (suc k) y e = absurd (let bad : None ≡ Some y = e in cc)
pushed_cases (z ∷ zs) x zero y e = inl e
pushed_cases (z ∷ zs) x (suc k) y e = elim (pushed_cases zs x k y e) [ inl h ↦ inl h | inr h ↦ inr (ap suc h.0, h.1) ]

-- 2. The lines of a script

standing_from : (around lines : List Line) (k : ℕ) (s : Standing) → slice_get (standing_in around lines) k ≡ Some s →
    (line : Line) × (slice_get lines k ≡ Some line) × (s ≡ record { around = open_after around (take k lines); line = line })
standing_from around [] k s e = absurd (let bad : None ≡ Some s = e in cc)
standing_from around (first ∷ lines) zero s e = (first, refl, (let same : record { around = around; line = first } ≡ s = cc in sym same))
standing_from around (first ∷ lines) (suc k) s e = standing_from (around_after (first_word first.words) first around) lines k s e

-- where a standing is, and its line
pub record Placed (lines : List Line) (s : Standing) : Type 0 where
  pub place : ℕ
  pub line : Line
  pub is : slice_get lines place ≡ Some line
  pub standing : s ≡ record { around = around_at lines place; line = line }

pub placed_at : (lines : List Line) (k : ℕ) (s : Standing) → slice_get (standings lines) k ≡ Some s → (p : Placed lines s) × (p.place ≡ k)
placed_at lines k s e = let r = standing_from [] lines k s e in (record { place = k; line = r.0; is = r.1; standing = r.2 }, refl)

pub placed_in : (lines : List Line) (s : Standing) → Contains (standings lines) s → Placed lines s
placed_in lines s h = let at = at_contained (standings lines) s h in (placed_at lines at.0 s at.1).0

pub listed_at : (lines : List Line) (k : ℕ) (line : Line) → slice_get lines k ≡ Some line → Contains (standings lines) (record { around = around_at lines k; line = line })
listed_at lines k line e = contains_at (standings lines) k (record { around = around_at lines k; line = line }) (standing_at lines k line e)

-- 3. Walks

module _ {X : Type 0} (lines : List Line) (B : ℕ → Line → X → Type 0) where
  -- it holds of a line below this one
  pub record Below (limit : ℕ) (x : X) : Type 0 where
    pub place : ℕ
    pub low : place < limit
    pub line : Line
    pub is : slice_get lines place ≡ Some line
    pub holds : B place line x

  pub below_more : (n : ℕ) (line : Line) → slice_get lines n ≡ Some line → (x : X) → Either (Below n) (B n line) x → Below (n + 1) x
  below_more n line is x (inl h) = record { place = h.place; low = omega (arith, h.low); line = h.line; is = h.is; holds = h.holds }
  below_more n line is x (inr h) = record { place = n; low = omega arith; line = line; is = is; holds = h }

  pub below_either : (n : ℕ) (line : Line) → slice_get lines n ≡ Some line → (x : X) → Below (n + 1) x → Either (Below n) (B n line) x
  below_either n line is x h = by (nat_lt h.place n) refl
    where
      at : h.place ≡ n → B n line x
      at e =
          let same : h.line ≡ line = (let two : Some h.line ≡ Some line = sym h.is ∙ ap (slice_get lines) e ∙ is in cc) in
          subst (λ (l : Line). B n l x) same (subst (λ k. B k h.line x) e h.holds)

      by : (c : Bool) → nat_lt h.place n ≡ c → Either (Below n) (B n line) x
      by true e = inl (record { place = h.place; low = ltb-true h.place n e; line = h.line; is = h.is; holds = h.holds })
      by false e = inr (at (omega (arith, ltb-false h.place n e, h.low)))

  pub none_below : (x : X) → Below 0 x → ⊥
  none_below x h = absurd (omega (arith, h.low))

-- a rule that lines break at places
module _ (lines : List Line) (B : ℕ → Line → ScriptPlace → Type 0) where
  pub below_none : IsFirst place_key (Below lines B 0) None
  below_none p h = none_below lines B p h

  pub below_next : (n : ℕ) (line : Line) (a b : Option ScriptPlace) → slice_get lines n ≡ Some line → IsFirst place_key (Below lines B n) a → IsFirst place_key (B n line) b → IsFirst place_key (Below lines B (n + 1)) (first_of place_key a b)
  below_next n line a b is h k =
      first_same place_key (Either (Below lines B n) (B n line)) (Below lines B (n + 1)) (first_of place_key a b) (below_more lines B n line is) (below_either lines B n line is)
      (first_either place_key (Below lines B n) (B n line) a b h k)

  -- all lines were passed, and the rule is broken where one of them breaks it
  pub below_all : (R : ScriptPlace → Type 0) (n : ℕ) (a : Option ScriptPlace) → n ≡ length lines → ((p : ScriptPlace) → Below lines B n p → R p) →
      ((p : ScriptPlace) → R p → (k : ℕ) × (line : Line) × (slice_get lines k ≡ Some line) × B k line p) → IsFirst place_key (Below lines B n) a → IsFirst place_key R a
  below_all R n a end f g h =
      first_same place_key (Below lines B n) R a f
      (λ p r. let at = g p r in record { place = at.0; low = omega (arith, slice_get_within lines at.0 at.1 at.2, end); line = at.1; is = at.2; holds = at.3 }) h
