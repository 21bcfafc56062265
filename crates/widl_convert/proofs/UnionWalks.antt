-- Walks over the flattened members of a union, a member at a time.
use Rattle.std.proofs.Common.{◌≡◌, ℕ, zero, suc, ◌+◌, ◌-◌, ◌<◌, ◌≤◌, ◌++◌, true, false, List, [], ◌∷◌, length, take, map, get_or, slice_get, option_map, Option, None, Some, arith, refl, sym, ap, ◌∙◌}
use Rattle.std.proofs.lemmas.List.{append_assoc, length-append}
use Rattle.std.proofs.lemmas.Option.{slice_get_past, slice_get_within}
use Rattle.std.specs.Option.{is_some}
use Rattle.widl_idl.specs.declared.types.IdlType.{IdlType}
use Rattle.widl_idl.specs.Terms.{TypeTerm, packed, type_term}
use Rattle.widl_idl.specs.Flattened.{flattened_member, flattened_members}
use Rattle.widl_idl.proofs.Members.{terms_more, flattened_members-append}

-- 1. Places in two lists, one after the other

in_first : (xs ys : List TypeTerm) (k : ℕ) → k < length xs → slice_get (xs ++ ys) k ≡ slice_get xs k
in_first [] ys k below = absurd (omega arith)
in_first (x ∷ xs) ys zero below = refl
in_first (x ∷ xs) ys (suc k) below = in_first xs ys k (omega arith)

in_second : (xs ys : List TypeTerm) (k place : ℕ) → place ≡ k + length xs → slice_get (xs ++ ys) place ≡ slice_get ys k
in_second [] ys k place is = ap (slice_get ys) (omega (arith, is))
in_second (x ∷ xs) ys k zero is = absurd (omega (arith, is))
in_second (x ∷ xs) ys k (suc place) is = in_second xs ys k place (omega (arith, is))

past : (xs : List TypeTerm) (k : ℕ) → slice_get xs k ≡ None → length xs ≤ k
past [] k none = omega arith
past (x ∷ xs) zero none = absurd (cc)
past (x ∷ xs) (suc k) none = omega (arith, past xs k none)

-- 2. The members before one, itself, and those after it

abbrev members_before : List IdlType → ℕ → List TypeTerm
members_before types i = flattened_members (packed (map type_term (take i types)))

one_more : (types : List IdlType) (i : ℕ) (t : IdlType) → i < length types → t ≡ get_or types i t → members_before types (i + 1) ≡ members_before types i ++ flattened_member (type_term t)
one_more types i t below is = ap (λ ts. flattened_members (packed ts)) (terms_more types i t below is) ∙ flattened_members-append (map type_term (take i types)) (type_term t)

split_at : (types : List IdlType) (i : ℕ) (t : IdlType) → i < length types → t ≡ get_or types i t
    → (later : List TypeTerm) × (flattened_members (packed (map type_term types)) ≡ members_before types i ++ (flattened_member (type_term t) ++ later))
split_at [] i t below is = absurd (omega arith)
split_at (x ∷ types) zero t below is =
    (flattened_members (packed (map type_term types)), ap (λ (u : IdlType). flattened_member (type_term u) ++ flattened_members (packed (map type_term types))) (sym is))
split_at (x ∷ types) (suc i) t below is =
    let inside = split_at types i t (omega arith) is in
    (inside.0, ap (λ members. flattened_member (type_term x) ++ members) inside.1 ∙ sym (append_assoc (flattened_member (type_term x)) (members_before types i) (flattened_member (type_term t) ++ inside.0)))

-- 3. The walk

module _ (types : List IdlType) (i : ℕ) (t : IdlType) (below : i < length types) (is : t ≡ get_or types i t) (place still : ℕ) (none : slice_get (members_before types i) place ≡ None) (so_far : still ≡ place - length (members_before types i)) where
  come : place ≡ still + length (members_before types i)
  come = omega (arith, past (members_before types i) place none, so_far)

  -- the member is among those of this type
  pub reached : {A : Type 0} (v : A → TypeTerm) (found : Option A) → is_some found ≡ true → option_map v found ≡ slice_get (flattened_member (type_term t)) still → option_map v found ≡ slice_get (flattened_members (packed (map type_term types))) place
  reached v None some here = absurd (cc)
  reached v (Some x) some here =
      let inside = split_at types i t below is in
      here
      ∙ sym (in_first (flattened_member (type_term t)) inside.0 still (slice_get_within (flattened_member (type_term t)) still (v x) (sym here)))
      ∙ sym (in_second (members_before types i) (flattened_member (type_term t) ++ inside.0) still place come)
      ∙ ap (λ members. slice_get members place) (sym inside.1)

  pub none_left : {A : Type 0} (v : A → TypeTerm) (found : Option A) → is_some found ≡ true → option_map v found ≡ slice_get (flattened_member (type_term t)) still → still - length (flattened_member (type_term t)) ≡ place - length (flattened_members (packed (map type_term types)))
  none_left v None some here = absurd (cc)
  none_left v (Some x) some here =
      let inside = split_at types i t below is in
      omega (arith, come, slice_get_within (flattened_member (type_term t)) still (v x) (sym here), ap length inside.1, length-append (members_before types i) (flattened_member (type_term t) ++ inside.0), length-append (flattened_member (type_term t)) inside.0)

  -- it comes later
  long : {A : Type 0} (v : A → TypeTerm) (found : Option A) → is_some found ≡ false → option_map v found ≡ slice_get (flattened_member (type_term t)) still → length (flattened_member (type_term t)) ≤ still
  long v None some here = past (flattened_member (type_term t)) still (sym here)
  long v (Some x) some here = absurd (cc)

  both : length (members_before types (i + 1)) ≡ length (members_before types i) + length (flattened_member (type_term t))
  both = ap length (one_more types i t below is) ∙ length-append (members_before types i) (flattened_member (type_term t))

  pub passed : {A : Type 0} (v : A → TypeTerm) (found : Option A) → is_some found ≡ false → option_map v found ≡ slice_get (flattened_member (type_term t)) still → slice_get (members_before types (i + 1)) place ≡ None
  passed v found some here = slice_get_past (members_before types (i + 1)) place (omega (arith, come, both, long v found some here))

  pub still_left : still - length (flattened_member (type_term t)) ≡ place - length (members_before types (i + 1))
  still_left = omega (arith, come, both)
