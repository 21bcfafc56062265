-- The steps of a graph whose successors are told by the items of a list.
use Rattle.std.proofs.Common.{◌≡◌, ℕ, ◌<◌, zero, suc, List, [], ◌∷◌, length, map, Option, None, Some, slice_get, arith, refl, sym, ap, subst, ◌∙◌, Contains}
use Rattle.std.specs.Prelude.{option_and_then}
use Rattle.std.specs.Option.{option_to_list}
use Rattle.std.proofs.lemmas.Option.{same_Some, slice_get_within}
use Rattle.widl_graph.specs.Reaching.{Step}

-- the item from which a step leads
pub from_step : {X : Type 0} (f : X → List ℕ) (xs : List X) (x y : ℕ) → Step (map f xs) x y → (d : X) × (slice_get xs x ≡ Some d) × Contains (f d) y
from_step f [] x y s = absurd (let below = s.1 in omega arith)
from_step f (d ∷ xs) zero y s = (d, refl, s)
from_step f (d ∷ xs) (suc x) y s = from_step f xs x y s

pub to_step : {X : Type 0} (f : X → List ℕ) (xs : List X) (x y : ℕ) (d : X) → slice_get xs x ≡ Some d → Contains (f d) y → Step (map f xs) x y
to_step f [] x y d is c = absurd (let g : None ≡ Some d = is in (cc))
to_step f (e ∷ xs) zero y d is c = subst (λ z. Contains (f z) y) (sym (same_Some e d is)) c
to_step f (e ∷ xs) (suc x) y d is c = to_step f xs x y d is c

pub listed_parent : (parent : Option ℕ) (y : ℕ) → Contains (option_to_list parent) y → parent ≡ Some y
listed_parent None y c = absurd (let below = c.1 in omega arith)
listed_parent (Some p) y (zero, below, is) = ap Some is
listed_parent (Some p) y (suc k, below, is) = absurd (omega (arith, below))

pub parent_listed : (parent : Option ℕ) (y : ℕ) → parent ≡ Some y → Contains (option_to_list parent) y
parent_listed None y e = absurd (let f : None ≡ Some y = e in (cc))
parent_listed (Some p) y e = (0, omega arith, same_Some p y e)

-- where each item tells its parent, if it has one, a step leads to the parent
module _ {X : Type 0} (parent : X → Option ℕ) (xs : List X) where
  pub step_parent : (x y : ℕ) → Step (map (λ d. option_to_list (parent d)) xs) x y → (d : X) × (slice_get xs x ≡ Some d) × (parent d ≡ Some y)
  step_parent x y s = let from = from_step (λ d. option_to_list (parent d)) xs x y s in (from.0, from.1, listed_parent (parent from.0) y from.2)

  pub parent_step : (x y : ℕ) (d : X) → slice_get xs x ≡ Some d → parent d ≡ Some y → Step (map (λ d. option_to_list (parent d)) xs) x y
  parent_step x y d is e = to_step (λ d. option_to_list (parent d)) xs x y d is (parent_listed (parent d) y e)

  -- the same, where the parent of a number is asked for
  parent_there : (found : Option X) (y : ℕ) → option_and_then parent found ≡ Some y → (d : X) × (found ≡ Some d) × (parent d ≡ Some y)
  parent_there None y e = absurd (let f : None ≡ Some y = e in (cc))
  parent_there (Some d) y e = (d, refl, e)

  pub step_up : (x y : ℕ) → Step (map (λ d. option_to_list (parent d)) xs) x y → option_and_then parent (slice_get xs x) ≡ Some y
  step_up x y s = let p = step_parent x y s in ap (option_and_then parent) p.1 ∙ p.2

  pub up_step : (x y : ℕ) → option_and_then parent (slice_get xs x) ≡ Some y → Step (map (λ d. option_to_list (parent d)) xs) x y
  up_step x y e = let p = parent_there (slice_get xs x) y e in parent_step x y p.0 p.1 p.2

  pub child_within : (x y : ℕ) → option_and_then parent (slice_get xs x) ≡ Some y → x < length xs
  child_within x y e = let p = parent_there (slice_get xs x) y e in slice_get_within xs x p.0 p.1
