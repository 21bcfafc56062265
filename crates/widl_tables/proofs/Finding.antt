-- Walks over flattened members that look for the first which meets a test.
use Rattle.std.proofs.Common.{◌≡◌, ℕ, zero, suc, ◌+◌, ◌<◌, ◌≤◌, ◌^◌, ◌++◌, ◌||◌, ◌&&◌, Bool, true, false, cond, nat_lt, min, List, [], ◌∷◌, length, take, map, get_or, Option, None, Some, arith, refl, sym, ap, ◌∙◌}
use Rattle.std.proofs.lemmas.List.Folds.{list_any-append}
use Rattle.std.specs.List.{list_any}
use Rattle.std.specs.Prelude.{option_and_then}
use Rattle.widl_idl.specs.declared.types.IdlType.{IdlType}
use Rattle.widl_idl.specs.Terms.{TypeTerm, type_term, packed}
use Rattle.widl_idl.specs.Flattened.{flattened_member, flattened_members}
use Rattle.widl_idl.proofs.Members.{terms_more, flattened_members-append}
use Rattle.widl_scalar.specs.Enumerations.{told_place}
use Rattle.widl_tables.specs.Picks.{first_member}
use Rattle.widl_tables.specs.TypeTests.{before, told_first}

none_by : (b : Bool) (n m k : ℕ) (any : Bool) → (b || any) ≡ false → (any ≡ false → n ≡ m + k) → cond b 0 (n + 1) ≡ cond b 0 (m + 1) + k
none_by true n m k any none h = cc
none_by false n m k any none h = omega (arith, h none)

-- none of the first types meets the test
before_none : (p : TypeTerm → Bool) (xs ys : List TypeTerm) → list_any p xs ≡ false → before p (xs ++ ys) ≡ before p xs + before p ys
before_none p [] ys none = omega arith
before_none p (x ∷ xs) ys none = none_by (p x) (before p (xs ++ ys)) (before p xs) (before p ys) (list_any p xs) none (before_none p xs ys)

found_by : (b : Bool) (n m : ℕ) (any : Bool) → (b || any) ≡ true → (any ≡ true → n ≡ m) → cond b 0 (n + 1) ≡ cond b 0 (m + 1)
found_by true n m any found h = refl
found_by false n m any found h = omega (arith, h found)

-- one of the first types meets it
before_found : (p : TypeTerm → Bool) (xs ys : List TypeTerm) → list_any p xs ≡ true → before p (xs ++ ys) ≡ before p xs
before_found p [] ys found = cc
before_found p (x ∷ xs) ys found = found_by (p x) (before p (xs ++ ys)) (before p xs) (list_any p xs) found (before_found p xs ys)

or_left : (a b : Bool) → (a || b) ≡ false → a ≡ false
or_left true b e = e
or_left false b e = refl

or_right : (a b : Bool) → (a || b) ≡ false → b ≡ false
or_right true b e = cc
or_right false b e = e

-- one more type was looked at
pub before_more : (p : TypeTerm → Bool) (types : List IdlType) (i : ℕ) (t : IdlType) → i < length types → t ≡ get_or types i t → list_any p (flattened_members (packed (map type_term (take i types)))) ≡ false
    → before p (flattened_members (packed (map type_term (take (i + 1) types)))) ≡ before p (flattened_members (packed (map type_term (take i types)))) + before p (flattened_member (type_term t))
before_more p types i t below is none =
    ap (before p) (ap (λ ts. flattened_members (packed ts)) (terms_more types i t below is) ∙ flattened_members-append (map type_term (take i types)) (type_term t))
    ∙ before_none p (flattened_members (packed (map type_term (take i types)))) (flattened_member (type_term t)) none

-- this type is the first that is flattened to one that meets the test
pub before_at : (p : TypeTerm → Bool) (types : List IdlType) (i : ℕ) (t : IdlType) → i < length types → t ≡ get_or types i t → list_any p (flattened_members (packed (map type_term (take i types)))) ≡ false → list_any p (flattened_member (type_term t)) ≡ true
    → before p (flattened_members (packed (map type_term types))) ≡ before p (flattened_members (packed (map type_term (take i types)))) + before p (flattened_member (type_term t))
before_at p [] i t below is none here = absurd (omega arith)
before_at p (x ∷ types) zero t below is none here =
    let first : before p (flattened_member (type_term x) ++ flattened_members (packed (map type_term types))) ≡ before p (flattened_member (type_term x))
    = before_found p (flattened_member (type_term x)) (flattened_members (packed (map type_term types))) (ap (λ (u : IdlType). list_any p (flattened_member (type_term u))) (sym is) ∙ here) in
    let same : before p (flattened_member (type_term x)) ≡ before p (flattened_member (type_term t)) = ap (λ (u : IdlType). before p (flattened_member (type_term u))) (sym is) in
    omega (arith, first, same)
before_at p (x ∷ types) (suc i) t below is none here =
    let split : (list_any p (flattened_member (type_term x)) || list_any p (flattened_members (packed (map type_term (take i types))))) ≡ false
    = sym (list_any-append p (flattened_member (type_term x)) (flattened_members (packed (map type_term (take i types))))) ∙ none in
    let first : list_any p (flattened_member (type_term x)) ≡ false = or_left _ _ split in
    let rest : before p (flattened_members (packed (map type_term types))) ≡ before p (flattened_members (packed (map type_term (take i types)))) + before p (flattened_member (type_term t))
    = before_at p types i t (omega arith) is (or_right _ _ split) here in
    let whole : before p (flattened_member (type_term x) ++ flattened_members (packed (map type_term types))) ≡ before p (flattened_member (type_term x)) + before p (flattened_members (packed (map type_term types)))
    = before_none p (flattened_member (type_term x)) (flattened_members (packed (map type_term types))) first in
    let part : before p (flattened_member (type_term x) ++ flattened_members (packed (map type_term (take i types)))) ≡ before p (flattened_member (type_term x)) + before p (flattened_members (packed (map type_term (take i types))))
    = before_none p (flattened_member (type_term x)) (flattened_members (packed (map type_term (take i types)))) first in
    omega (arith, rest, whole, part)

first_by : (b : Bool) (k n : ℕ) (any : Bool) (later : Option ℕ) → later ≡ cond any (Some (k + 1 + n)) None → cond b (Some k) later ≡ cond (b || any) (Some (k + cond b 0 (n + 1))) None
first_by true k n any later h = ap Some (omega arith)
first_by false k n true later h = h ∙ ap Some (omega arith)
first_by false k n false later h = h

-- the place of the first that meets a test
pub first_is : (p : TypeTerm → Bool) (k : ℕ) (xs : List TypeTerm) → first_member p k xs ≡ cond (list_any p xs) (Some (k + before p xs)) None
first_is p k [] = refl
first_is p k (x ∷ xs) = first_by (p x) k (before p xs) (list_any p xs) (first_member p (k + 1) xs) (first_is p (k + 1) xs)

capped_by : (below : Bool) (n : ℕ) → below ≡ nat_lt n (2 ^ 32) → told_place (min n 18446744073709551615) ≡ told_place n
capped_by true n less = ap told_place (let small : n < 2 ^ 32 = grind (arith, less) in omega arith)
capped_by false n less =
    let great : 2 ^ 32 ≤ n = grind (arith, less) in
    let cut : 2 ^ 32 ≤ min n 18446744073709551615 = omega arith in
    let none : nat_lt (min n 18446744073709551615) (2 ^ 32) ≡ false = grind (arith, cut) in
    ap (λ b. cond b (Some (min n 18446744073709551615)) None) none ∙ ap (λ b. cond b (Some n) None) less

-- the place that is told where a type meets the test
pub told_found : (p : TypeTerm → Bool) (xs : List TypeTerm) (passed : ℕ) (told : Option ℕ) → list_any p xs ≡ true → passed ≡ min (0 + before p xs) 18446744073709551615 → told ≡ told_place passed → told ≡ told_first p xs
told_found p xs passed told found capped is =
    let first : first_member p 0 xs ≡ Some (before p xs) = first_is p 0 xs ∙ ap (λ b. cond b (Some (0 + before p xs)) None) found ∙ ap Some (omega arith) in
    let zero_less : min (0 + before p xs) 18446744073709551615 ≡ min (before p xs) 18446744073709551615 = omega arith in
    is ∙ ap told_place (capped ∙ zero_less) ∙ capped_by (nat_lt (before p xs) (2 ^ 32)) (before p xs) refl ∙ ap (option_and_then told_place) (sym first)

-- none is told where no type does
pub told_none : (p : TypeTerm → Bool) (xs : List TypeTerm) → list_any p xs ≡ false → None ≡ told_first p xs
told_none p xs none = ap (option_and_then told_place) (sym (first_is p 0 xs ∙ ap (λ b. cond b (Some (0 + before p xs)) None) none))

first_never : (k : ℕ) (xs : List TypeTerm) → first_member (λ t. false) k xs ≡ None
first_never k [] = refl
first_never k (x ∷ xs) = first_never (k + 1) xs

-- the same of a test that asks something of the value besides
pub told_asked : (asked : Bool) (p : TypeTerm → Bool) (xs : List TypeTerm) (told : Option ℕ) → asked ≡ true → told ≡ told_first p xs → told ≡ told_first (λ t. asked && p t) xs
told_asked asked p xs told given is = is ∙ ap (λ (b : Bool). told_first (λ t. b && p t) xs) (sym given)

pub told_unasked : (asked : Bool) (p : TypeTerm → Bool) (xs : List TypeTerm) → asked ≡ false → None ≡ told_first (λ t. asked && p t) xs
told_unasked asked p xs refused = ap (option_and_then told_place) (sym (first_never 0 xs)) ∙ ap (λ (b : Bool). told_first (λ t. b && p t) xs) (sym refused)
