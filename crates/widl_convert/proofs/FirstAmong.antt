-- The first of the types that types are flattened to in which something is found.
use Rattle.std.proofs.Common.{◌≡◌, ℕ, zero, suc, ◌+◌, ◌<◌, ◌++◌, List, [], ◌∷◌, length, take, map, get_or, Option, None, Some, arith, refl, sym, ap, ◌∙◌}
use Rattle.std.specs.Option.{option_or}
use Rattle.widl_idl.specs.declared.types.IdlType.{IdlType}
use Rattle.widl_idl.specs.Flattened.{flattened_member, flattened_members}
use Rattle.widl_idl.specs.Terms.{TypeTerm, packed, type_term}
use Rattle.widl_idl.proofs.Members.{terms_more, flattened_members-append}

-- what is found in a type, and what is found first among types
module _ {X : Type 0} (found : TypeTerm → Option X) (among : List TypeTerm → Option X) (nowhere : among [] ≡ None) (first : (t : TypeTerm) (types : List TypeTerm) → among (t ∷ types) ≡ option_or (found t) (among types)) where
  or_assoc : (a b c : Option X) → option_or a (option_or b c) ≡ option_or (option_or a b) c
  or_assoc None b c = refl
  or_assoc (Some n) b c = refl

  among_append : (xs ys : List TypeTerm) → among (xs ++ ys) ≡ option_or (among xs) (among ys)
  among_append [] ys = ap (λ a. option_or a (among ys)) (sym nowhere)
  among_append (x ∷ xs) ys =
      first x (xs ++ ys) ∙ ap (option_or (found x)) (among_append xs ys) ∙ or_assoc (found x) (among xs) (among ys)
      ∙ ap (λ a. option_or a (among ys)) (sym (first x xs))

  or_left : (a b : Option X) → option_or a b ≡ None → a ≡ None
  or_left None b none = refl
  or_left (Some n) b none = none

  or_right : (a b : Option X) → option_or a b ≡ None → b ≡ None
  or_right None b none = none
  or_right (Some n) b none = absurd (cc)

  -- one more type was looked at
  pub none_more : (types : List IdlType) (i : ℕ) (t : IdlType) → i < length types → t ≡ get_or types i t → among (flattened_members (packed (map type_term (take i types)))) ≡ None → among (flattened_member (type_term t)) ≡ None
      → among (flattened_members (packed (map type_term (take (i + 1) types)))) ≡ None
  none_more types i t below is none here =
      ap among (ap (λ ts. flattened_members (packed ts)) (terms_more types i t below is) ∙ flattened_members-append (map type_term (take i types)) (type_term t))
      ∙ among_append (flattened_members (packed (map type_term (take i types)))) (flattened_member (type_term t))
      ∙ (λ k. option_or (none k) (here k))

  -- this type is the first with one
  pub found_at : (types : List IdlType) (i : ℕ) (t : IdlType) (n : X) → i < length types → t ≡ get_or types i t → among (flattened_members (packed (map type_term (take i types)))) ≡ None → among (flattened_member (type_term t)) ≡ Some n
      → among (flattened_members (packed (map type_term types))) ≡ Some n
  found_at [] i t n below is none here = absurd (omega arith)
  found_at (x ∷ types) zero t n below is none here =
      among_append (flattened_member (type_term x)) (flattened_members (packed (map type_term types)))
      ∙ ap (λ a. option_or a (among (flattened_members (packed (map type_term types))))) (ap (λ (u : IdlType). among (flattened_member (type_term u))) (sym is) ∙ here)
  found_at (x ∷ types) (suc i) t n below is none here =
      let split : option_or (among (flattened_member (type_term x))) (among (flattened_members (packed (map type_term (take i types))))) ≡ None
      = sym (among_append (flattened_member (type_term x)) (flattened_members (packed (map type_term (take i types))))) ∙ none in
      among_append (flattened_member (type_term x)) (flattened_members (packed (map type_term types)))
      ∙ (λ k. option_or (or_left (among (flattened_member (type_term x))) (among (flattened_members (packed (map type_term (take i types))))) split k) (found_at types i t n (omega arith) is (or_right (among (flattened_member (type_term x))) (among (flattened_members (packed (map type_term (take i types))))) split) here k))
