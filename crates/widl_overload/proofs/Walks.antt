-- Tests of the flattened members of a union, a member at a time.
use Rattle.std.proofs.Common.{◌≡◌, ℕ, zero, suc, ◌+◌, ◌<◌, ◌++◌, ◌||◌, ◌&&◌, Bool, true, false, List, [], ◌∷◌, length, take, map, get_or, arith, refl, sym, ap, ◌∙◌}
use Rattle.std.proofs.lemmas.List.Folds.{list_any-append, list_all-append}
use Rattle.std.specs.List.{list_any, list_all}
use Rattle.widl_idl.specs.declared.types.IdlType.{IdlType}
use Rattle.widl_idl.specs.Terms.{TypeTerm, type_term, packed}
use Rattle.widl_idl.specs.Flattened.{flattened_member, flattened_members}
use Rattle.widl_idl.proofs.Members.{terms_more, flattened_members-append}

-- what the first members and one more are flattened to
one_more : (types : List IdlType) (i : ℕ) (t : IdlType) → i < length types → t ≡ get_or types i t → flattened_members (packed (map type_term (take (i + 1) types))) ≡ flattened_members (packed (map type_term (take i types))) ++ flattened_member (type_term t)
one_more types i t below is = ap (λ ts. flattened_members (packed ts)) (terms_more types i t below is) ∙ flattened_members-append (map type_term (take i types)) (type_term t)

pub all_more : (p : TypeTerm → Bool) (types : List IdlType) (i : ℕ) (t : IdlType) → i < length types → t ≡ get_or types i t → list_all p (flattened_member (type_term t)) ≡ true
    → list_all p (flattened_members (packed (map type_term (take i types)))) ≡ true → list_all p (flattened_members (packed (map type_term (take (i + 1) types)))) ≡ true
all_more p types i t below is here before =
    ap (list_all p) (one_more types i t below is) ∙ list_all-append p (flattened_members (packed (map type_term (take i types)))) (flattened_member (type_term t)) ∙ (λ j. before j && here j)

pub none_more : (p : TypeTerm → Bool) (types : List IdlType) (i : ℕ) (t : IdlType) → i < length types → t ≡ get_or types i t → list_any p (flattened_member (type_term t)) ≡ false
    → list_any p (flattened_members (packed (map type_term (take i types)))) ≡ false → list_any p (flattened_members (packed (map type_term (take (i + 1) types)))) ≡ false
none_more p types i t below is here before =
    ap (list_any p) (one_more types i t below is) ∙ list_any-append p (flattened_members (packed (map type_term (take i types)))) (flattened_member (type_term t)) ∙ (λ j. before j || here j)

and_false : (b : Bool) → (b && false) ≡ false
and_false true = refl
and_false false = refl

or_true : (b : Bool) → (b || true) ≡ true
or_true true = refl
or_true false = refl

pub fails_at : (p : TypeTerm → Bool) (types : List IdlType) (i : ℕ) (t : IdlType) → i < length types → t ≡ get_or types i t → list_all p (flattened_member (type_term t)) ≡ false → list_all p (flattened_members (packed (map type_term types))) ≡ false
fails_at p [] i t below is h = absurd (omega arith)
fails_at p (x ∷ types) zero t below is h =
    list_all-append p (flattened_member (type_term x)) (flattened_members (packed (map type_term types)))
    ∙ ap (λ b. b && list_all p (flattened_members (packed (map type_term types)))) (ap (λ u. list_all p (flattened_member (type_term u))) (sym is) ∙ h)
fails_at p (x ∷ types) (suc i) t below is h =
    list_all-append p (flattened_member (type_term x)) (flattened_members (packed (map type_term types)))
    ∙ ap (λ b. list_all p (flattened_member (type_term x)) && b) (fails_at p types i t (omega arith) is h) ∙ and_false (list_all p (flattened_member (type_term x)))

pub found_at : (p : TypeTerm → Bool) (types : List IdlType) (i : ℕ) (t : IdlType) → i < length types → t ≡ get_or types i t → list_any p (flattened_member (type_term t)) ≡ true → list_any p (flattened_members (packed (map type_term types))) ≡ true
found_at p [] i t below is h = absurd (omega arith)
found_at p (x ∷ types) zero t below is h =
    list_any-append p (flattened_member (type_term x)) (flattened_members (packed (map type_term types)))
    ∙ ap (λ b. b || list_any p (flattened_members (packed (map type_term types)))) (ap (λ u. list_any p (flattened_member (type_term u))) (sym is) ∙ h)
found_at p (x ∷ types) (suc i) t below is h =
    list_any-append p (flattened_member (type_term x)) (flattened_members (packed (map type_term types)))
    ∙ ap (λ b. list_any p (flattened_member (type_term x)) || b) (found_at p types i t (omega arith) is h) ∙ or_true (list_any p (flattened_member (type_term x)))

-- one of the types doesn't pass
pub term_fails : (p : TypeTerm → Bool) (types : List IdlType) (i : ℕ) (t : IdlType) → i < length types → t ≡ get_or types i t → p (type_term t) ≡ false → list_all p (map type_term types) ≡ false
term_fails p [] i t below is h = absurd (omega arith)
term_fails p (x ∷ types) zero t below is h = ap (λ b. b && list_all p (map type_term types)) (ap (λ u. p (type_term u)) (sym is) ∙ h)
term_fails p (x ∷ types) (suc i) t below is h = ap (λ b. p (type_term x) && b) (term_fails p types i t (omega arith) is h) ∙ and_false (p (type_term x))

-- one type more passes
pub term_more : (p : TypeTerm → Bool) (types : List IdlType) (i : ℕ) (t : IdlType) → i < length types → t ≡ get_or types i t → p (type_term t) ≡ true → list_all p (map type_term (take i types)) ≡ true → list_all p (map type_term (take (i + 1) types)) ≡ true
term_more p types i t below is here before =
    ap (list_all p) (terms_more types i t below is) ∙ list_all-append p (map type_term (take i types)) (type_term t ∷ []) ∙ (λ j. before j && (here j && true))
