-- The members of a union, with one member more.
use Rattle.std.proofs.Common.{◌≡◌, ℕ, ◌+◌, ◌<◌, ◌++◌, List, [], ◌∷◌, length, take, map, min, get_or, arith, sym, ap, ◌∙◌, append-nil}
use Rattle.std.proofs.lemmas.List.{take_more, append_assoc, map-append}
use Rattle.widl_idl.specs.declared.types.IdlType.{IdlType}
use Rattle.widl_idl.specs.Terms.{TypeTerm, type_term, packed}
use Rattle.widl_idl.specs.Flattened.{flattened_member, flattened_members, inner_nullable_members, nullable_members, nullable_one}

-- the terms of the first types, with one type more
pub terms_more : (types : List IdlType) (i : ℕ) (t : IdlType) → i < length types → t ≡ get_or types i t → map type_term (take (i + 1) types) ≡ map type_term (take i types) ++ type_term t ∷ []
terms_more types i t below is =
    ap (map type_term) (take_more types i t below ∙ ap (λ u. take i types ++ u ∷ []) (sym is)) ∙ map-append type_term (take i types) (t ∷ [])

pub flattened_members-append : (ts : List TypeTerm) (t : TypeTerm) → flattened_members (packed (ts ++ t ∷ [])) ≡ flattened_members (packed ts) ++ flattened_member t
flattened_members-append [] t = append-nil (flattened_member t)
flattened_members-append (u ∷ ts) t = ap (λ members. flattened_member u ++ members) (flattened_members-append ts t) ∙ sym (append_assoc (flattened_member u) (flattened_members (packed ts)) (flattened_member t))

pub nullable_members-append : (ts : List TypeTerm) (t : TypeTerm) → nullable_members (packed (ts ++ t ∷ [])) ≡ nullable_members (packed ts) + (nullable_one t + inner_nullable_members t)
nullable_members-append [] t = omega arith
nullable_members-append (u ∷ ts) t = omega (arith, nullable_members-append ts t)

-- one member more is flattened
pub flattened_more : (types : List IdlType) (i : ℕ) (t : IdlType) (start old new : List TypeTerm) → i < length types → t ≡ get_or types i t → new ≡ old ++ flattened_member (type_term t)
    → old ≡ start ++ flattened_members (packed (map type_term (take i types))) → new ≡ start ++ flattened_members (packed (map type_term (take (i + 1) types)))
flattened_more types i t start old new below is added so =
    added ∙ ap (λ members. members ++ flattened_member (type_term t)) so
    ∙ append_assoc start (flattened_members (packed (map type_term (take i types)))) (flattened_member (type_term t))
    ∙ ap (λ members. start ++ members) (sym (ap (λ ts. flattened_members (packed ts)) (terms_more types i t below is) ∙ flattened_members-append (map type_term (take i types)) (type_term t)))

-- one member more is counted
pub counted_more : (types : List IdlType) (i : ℕ) (t : IdlType) (old one inner both new : ℕ) → i < length types → t ≡ get_or types i t → one ≡ nullable_one (type_term t) → inner ≡ min (inner_nullable_members (type_term t)) 4294967295
    → both ≡ min (one + inner) 4294967295 → new ≡ min (old + both) 4294967295 → old ≡ min (nullable_members (packed (map type_term (take i types)))) 4294967295
    → new ≡ min (nullable_members (packed (map type_term (take (i + 1) types)))) 4294967295
counted_more types i t old one inner both new below is one_is inner_is both_is new_is so =
    let more : nullable_members (packed (map type_term (take (i + 1) types))) ≡ nullable_members (packed (map type_term (take i types))) + (nullable_one (type_term t) + inner_nullable_members (type_term t))
    = ap (λ ts. nullable_members (packed ts)) (terms_more types i t below is) ∙ nullable_members-append (map type_term (take i types)) (type_term t) in
    omega arith
