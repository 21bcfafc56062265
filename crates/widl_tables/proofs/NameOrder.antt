-- The members that a dictionary declares are sorted by their names.
use Rattle.std.proofs.Common.{◌≡◌, ℕ, zero, suc, ◌+◌, Bool, true, false, if◌then◌else◌, List, [], ◌∷◌, refl, sym, subst, arith}
use Rattle.std.specs.Prelude.{slice_index_or}
use Rattle.std.specs.List.{AllByRecursion}
use Rattle.std.specs.Cmp.Lexicographic.{slice_cmp}
use Rattle.std.specs.declared.cmp.Ordering.{Ordering}
use Rattle.std.specs.declared.cmp.Ordering.TheVariants.{Less, Equal, Greater}
use Rattle.std.specs.List.Sorted.{IsPermutation, IsSortedBy}
use Rattle.std.specs.Ordering.{is_gt, is_lt, nat_cmp, ordering_reverse}
use Rattle.std.proofs.lemmas.Cmp.{nat_list_cmp_total}
use Rattle.std.proofs.lemmas.List.Sorted.{IsPermutation-refl, IsPermutation-cons, IsPermutation-trans, IsPermutation-middle}
use Rattle.widl_tables.specs.MemberOrder.{DeclaredMember, comes_after, with_member, by_name}

abbrev pub less : DeclaredMember → DeclaredMember → Bool
less x y = is_lt (slice_cmp nat_cmp x.member.name y.member.name)

-- 1. The same members

swapped : (m other : DeclaredMember) (members : List DeclaredMember) → IsPermutation (m ∷ other ∷ members) (other ∷ m ∷ members)
swapped m other members = IsPermutation-middle (m ∷ []) other members

put : (b : Bool) (m other : DeclaredMember) (members : List DeclaredMember) → IsPermutation (m ∷ members) (with_member m members) → IsPermutation (m ∷ other ∷ members) (if b then other ∷ with_member m members else m ∷ other ∷ members)
put true m other members x = IsPermutation-trans _ _ _ (swapped m other members) (IsPermutation-cons other _ _ x)
put false m other members x = IsPermutation-refl _

same_with : (m : DeclaredMember) (members : List DeclaredMember) → IsPermutation (m ∷ members) (with_member m members)
same_with m [] = IsPermutation-refl _
same_with m (other ∷ members) = put (comes_after m other) m other members (same_with m members)

pub same : (members : List DeclaredMember) → IsPermutation members (by_name members)
same [] = IsPermutation-refl []
same (m ∷ members) = IsPermutation-trans _ _ _ (IsPermutation-cons m _ _ (same members)) (same_with m (by_name members))

-- 2. In order: none is less than the one before it

not_less : (r : Ordering) → is_gt r ≡ true → is_lt r ≡ false
not_less Less e = absurd (cc)
not_less Equal e = absurd (cc)
not_less Greater e = refl

not_reversed : (r : Ordering) → is_gt r ≡ false → is_lt (ordering_reverse r) ≡ false
not_reversed Less e = refl
not_reversed Equal e = refl
not_reversed Greater e = absurd (cc)

-- the first of these isn't less
abbrev pub Before : DeclaredMember → List DeclaredMember → Type 0
Before x [] = Unit {0}
Before x (y ∷ members) = less y x ≡ false

abbrev pub Rises : List DeclaredMember → Type 0
Rises [] = Unit {0}
Rises (x ∷ members) = Before x members × Rises members

before_if : (b : Bool) (x m other : DeclaredMember) (members more : List DeclaredMember) → less m x ≡ false → less other x ≡ false → Before x (if b then other ∷ more else m ∷ other ∷ members)
before_if true x m other members more h a = a
before_if false x m other members more h a = h

before_with : (x m : DeclaredMember) (members : List DeclaredMember) → less m x ≡ false → Before x members → Before x (with_member m members)
before_with x m [] h a = h
before_with x m (other ∷ members) h a = before_if (comes_after m other) x m other members (with_member m members) h a

rises_if : (b : Bool) (m other : DeclaredMember) (members : List DeclaredMember) → comes_after m other ≡ b → Rises (other ∷ members) → Rises (with_member m members) → Rises (if b then other ∷ with_member m members else m ∷ other ∷ members)
rises_if true m other members e r later = (before_with other m members (not_less (slice_cmp nat_cmp m.member.name other.member.name) e) r.0, later)
rises_if false m other members e r later =
    (subst (λ (o : Ordering). is_lt o ≡ false) (sym (nat_list_cmp_total.antisymm other.member.name m.member.name)) (not_reversed (slice_cmp nat_cmp m.member.name other.member.name) e), r)

rises_with : (m : DeclaredMember) (members : List DeclaredMember) → Rises members → Rises (with_member m members)
rises_with m [] r = (tt, tt)
rises_with m (other ∷ members) r = rises_if (comes_after m other) m other members refl r (rises_with m members r.1)

pub rises : (members : List DeclaredMember) → Rises (by_name members)
rises [] = tt
rises (m ∷ members) = rises_with m (by_name members) (rises members)

-- the same by places
pub sorted : (members : List DeclaredMember) → Rises members → IsSortedBy less members
sorted [] r k d z h = absurd (omega (arith, h))
sorted (x ∷ []) r k d z h = absurd (omega (arith, h))
sorted (x ∷ y ∷ members) r zero d z h = r.0
sorted (x ∷ y ∷ members) r (suc k) d z h =
    let next : suc (k + 1) ≡ suc k + 1 = omega arith in
    subst (λ (i : ℕ). less (slice_index_or (x ∷ y ∷ members) i d) (slice_index_or (x ∷ y ∷ members) (suc k) d) ≡ false) next (sorted (y ∷ members) r.1 k d (omega arith) (omega (arith, h)))

-- 3. What holds of each member

module _ (P : DeclaredMember → Type 0) where
  put_all : (b : Bool) (m other : DeclaredMember) (members : List DeclaredMember) → P m → AllByRecursion P (other ∷ members) → AllByRecursion P (with_member m members) → AllByRecursion P (if b then other ∷ with_member m members else m ∷ other ∷ members)
  put_all true m other members x all later = (all.0, later)
  put_all false m other members x all later = (x, all)

  all_with : (m : DeclaredMember) (members : List DeclaredMember) → P m → AllByRecursion P members → AllByRecursion P (with_member m members)
  all_with m [] x all = (x, tt)
  all_with m (other ∷ members) x all = put_all (comes_after m other) m other members x all (all_with m members x all.1)

  pub all_by_name : (members : List DeclaredMember) → AllByRecursion P members → AllByRecursion P (by_name members)
  all_by_name [] all = tt
  all_by_name (m ∷ members) all = all_with m (by_name members) all.0 (all_by_name members all.1)
