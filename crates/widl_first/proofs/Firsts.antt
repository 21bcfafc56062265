-- The first of a union is the first of the firsts, in any order that a test tells.
use Rattle.std.proofs.Common.{◌≡◌, inl, inr, Bool, true, false, cond, Option, Some, None, refl, ap}
use Rattle.widl_first.specs.First.{Either, FirstWhere, IsFirst, Tells, first_of}

module _ {X : Type 0} {Before : X → X → Type 0} where
  module _ {is_before : X → X → Bool} (tells : Tells Before is_before) (P Q R : X → Type 0) (e : Either P Q R) where
    chosen : (best found : X) (b : Bool) → is_before found best ≡ b → IsFirst Before P best → IsFirst Before Q found → FirstWhere Before R (cond b (Some found) (Some best))
    chosen best found true is l m = record { holds = e.right found m.holds; first = λ x r before. elim (e.only x r) [ inl p ↦ l.first x p (tells.trans x found best before (tells.told found best is)) | inr q ↦ m.first x q before ] }
    chosen best found false is l m = record { holds = e.left best l.holds; first = λ x r before. elim (e.only x r) [ inl p ↦ l.first x p before | inr q ↦ m.first x q (tells.not_told best found x is before) ] }

    pub first_either : (best found : Option X) → FirstWhere Before P best → FirstWhere Before Q found → FirstWhere Before R (first_of is_before best found)
    first_either None None l m = λ x r. elim (e.only x r) [ inl p ↦ l x p | inr q ↦ m x q ]
    first_either None (Some found) l m = record { holds = e.right found m.holds; first = λ x r before. elim (e.only x r) [ inl p ↦ absurd (l x p) | inr q ↦ m.first x q before ] }
    first_either (Some best) None l m = record { holds = e.left best l.holds; first = λ x r before. elim (e.only x r) [ inl p ↦ l.first x p before | inr q ↦ absurd (m x q) ] }
    first_either (Some best) (Some found) l m = chosen best found (is_before found best) refl l m

  -- there is one first, where things of which neither stands before the other are one
  pub same_first : ((p q : X) → (Before p q → ⊥) → (Before q p → ⊥) → p ≡ q) → (P : X → Type 0) (a b : Option X) → FirstWhere Before P a → FirstWhere Before P b → a ≡ b
  same_first neither P None None l m = refl
  same_first neither P None (Some q) l m = absurd (l q m.holds)
  same_first neither P (Some p) None l m = absurd (m p l.holds)
  same_first neither P (Some p) (Some q) l m = ap Some (neither p q (m.first p l.holds) (l.first q m.holds))

-- the same property in other words
pub first_same : {X : Type 0} (Before : X → X → Type 0) (P Q : X → Type 0) (found : Option X) → ((x : X) → P x → Q x) → ((x : X) → Q x → P x) → FirstWhere Before P found → FirstWhere Before Q found
first_same Before P Q None to from l = λ x q. l x (from x q)
first_same Before P Q (Some p) to from l = record { holds = to p l.holds; first = λ x q. l.first x (from x q) }

-- nothing is left out where the latter is absent
pub first_of_one : {X : Type 0} (is_before : X → X → Bool) (best : Option X) → first_of is_before best None ≡ best
first_of_one is_before None = refl
first_of_one is_before (Some p) = refl
