-- What a loop over a list finds of what the items are seen as, an item at a time.
use Rattle.std.proofs.Common.{◌≡◌, ℕ, ◌+◌, ◌<◌, ◌≤◌, ◌++◌, Bool, ◌||◌, List, [], ◌∷◌, length, take, map, get_or, Option, None, arith, sym, ap, subst, ◌∙◌, Bor}
use Rattle.std.specs.List.{list_any}
use Rattle.std.proofs.lemmas.List.{take_all}
use Rattle.std.proofs.Math.Bool.{or-false}
use Rattle.std.proofs.lemmas.List.Folds.{list_any-append}
use Rattle.widl_idl.specs.declared.tree.members.Member.{Member}
use Rattle.widl_idl.specs.declared.violation.Violation.{Violation}
use Rattle.widl_idl.specs.First.{AtOne, FirstWhere, Somewhere, earlier}
use Rattle.widl_idl.specs.PlainTrees.{member_of}
use Rattle.widl_idl.proofs.Somewhere.{somewhere_both, somewhere_one}
use Rattle.widl_names.specs.Listings.{listed_members}
use Rattle.widl_names.proofs.PlainLists.{mapped_more}
use Rattle.widl_names.proofs.Pushed.{at_one_push}

-- a test on a list with one item more
pub any_push : {X : Type 0} (test : X → Bool) (xs : List X) (x : X) → list_any test (xs ++ x ∷ []) ≡ (list_any test xs || test x)
any_push test xs x = list_any-append test xs (x ∷ []) ∙ ap (λ b. list_any test xs || b) (or-false (test x))

pub none_at_one : {X : Type 0} (P : List X → X → Violation → Type 0) → FirstWhere (AtOne P []) None
none_at_one P = λ s u. absurd (let below = u.below in omega arith)

-- the members up to the next one
pub listed_next : (members : List (Bor Member)) (i : ℕ) (m : Bor Member) → i < length members → m ≡ get_or members i m → listed_members (take (i + 1) members) ≡ listed_members (take i members) ++ member_of m.now ∷ []
listed_next members i m below is = mapped_more (λ (x : Bor Member). member_of x.now) members i m below is

module _ {X Y : Type 0} (f : X → Y) (xs : List X) where
  -- one item more
  pub somewhere_step : (P : Y → Violation → Type 0) (i : ℕ) (x : X) (best found now : Option Violation) → i < length xs → x ≡ get_or xs i x → now ≡ earlier best found → FirstWhere (P (f x)) found
      → FirstWhere (Somewhere P (map f (take i xs))) best → FirstWhere (Somewhere P (map f (take (i + 1) xs))) now
  somewhere_step P i x best found now below is e h m =
      subst (FirstWhere (Somewhere P (map f (take (i + 1) xs)))) (sym e) (subst (λ ys. FirstWhere (Somewhere P ys) (earlier best found)) (sym (mapped_more f xs i x below is))
      (somewhere_both P (map f (take i xs)) (f x ∷ []) best found m (somewhere_one P (f x) found h)))

  -- at the end of the list
  pub somewhere_end : (P : Y → Violation → Type 0) (i : ℕ) (best : Option Violation) → length xs ≤ i → FirstWhere (Somewhere P (map f (take i xs))) best → FirstWhere (Somewhere P (map f xs)) best
  somewhere_end P i best past m = subst (λ ys. FirstWhere (Somewhere P (map f ys)) best) (take_all i xs past) m

  -- one item more, for a rule about an item and those before it
  pub at_one_step : (P : List Y → Y → Violation → Type 0) (i : ℕ) (x : X) (best found now : Option Violation) → i < length xs → x ≡ get_or xs i x → now ≡ earlier best found → FirstWhere (P (map f (take i xs)) (f x)) found
      → FirstWhere (AtOne P (map f (take i xs))) best → FirstWhere (AtOne P (map f (take (i + 1) xs))) now
  at_one_step P i x best found now below is e h m =
      subst (FirstWhere (AtOne P (map f (take (i + 1) xs)))) (sym e) (subst (λ ys. FirstWhere (AtOne P ys) (earlier best found)) (sym (mapped_more f xs i x below is))
      (at_one_push P (map f (take i xs)) (f x) best found m h))

  pub at_one_end : (P : List Y → Y → Violation → Type 0) (i : ℕ) (best : Option Violation) → length xs ≤ i → FirstWhere (AtOne P (map f (take i xs))) best → FirstWhere (AtOne P (map f xs)) best
  at_one_end P i best past m = subst (λ ys. FirstWhere (AtOne P (map f ys)) best) (take_all i xs past) m

  -- a test on the items, with one item more
  pub any_step : (test : Y → Bool) (i : ℕ) (x : X) (old new : Bool) → i < length xs → x ≡ get_or xs i x → new ≡ (old || test (f x)) → old ≡ list_any test (map f (take i xs)) → new ≡ list_any test (map f (take (i + 1) xs))
  any_step test i x old new below is e was = e ∙ ap (λ b. b || test (f x)) was ∙ sym (any_push test (map f (take i xs)) (f x)) ∙ ap (list_any test) (sym (mapped_more f xs i x below is))
