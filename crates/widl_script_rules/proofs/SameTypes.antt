-- Lists of types are the same without annotations from a place on.
use Rattle.std.proofs.Common.{◌≡◌, ℕ, ◌+◌, ◌<◌, ◌≤◌, zero, suc, Bool, true, false, ◌&&◌, nat_le, List, [], ◌∷◌, length, drop, map, get_or, arith, refl, sym, ap, ◌∙◌}
use Rattle.std.proofs.lemmas.Bool.Decides.{nat_tests}
use Rattle.widl_idl.specs.declared.types.IdlType.{IdlType}
use Rattle.widl_idl.specs.Sameness.{same_term, same_terms}
use Rattle.widl_idl.specs.Terms.{TypeTerms, no_types, packed, type_term}
use Rattle.widl_script_rules.specs.Fits.{all_without_annotations, without_annotations}

abbrev pub stripped : List IdlType → TypeTerms
stripped types = all_without_annotations (packed (map type_term types))

-- the lists are the same from this place on
abbrev pub rest : List IdlType → List IdlType → ℕ → Bool
rest xs ys i = same_terms (stripped (drop i xs)) (stripped (drop i ys))

nothing_left : (xs : List IdlType) (i : ℕ) → length xs ≤ i → drop i xs ≡ []
nothing_left [] zero past = refl
nothing_left [] (suc i) past = refl
nothing_left (x ∷ xs) zero past = absurd (omega arith)
nothing_left (x ∷ xs) (suc i) past = nothing_left xs i (omega arith)

left_alone : (ys : List IdlType) (i : ℕ) → i < length ys → same_terms no_types (stripped (drop i ys)) ≡ false
left_alone [] i within = absurd (omega arith)
left_alone (y ∷ ys) zero within = refl
left_alone (y ∷ ys) (suc i) within = left_alone ys i (omega arith)

alone_left : (xs : List IdlType) (i : ℕ) → i < length xs → same_terms (stripped (drop i xs)) no_types ≡ false
alone_left [] i within = absurd (omega arith)
alone_left (x ∷ xs) zero within = refl
alone_left (x ∷ xs) (suc i) within = alone_left xs i (omega arith)

-- one list ends before the other
pub shorter : (xs ys : List IdlType) (i : ℕ) → i < length xs → length ys ≤ i → rest xs ys i ≡ false
shorter xs ys i within past = ap (λ zs. same_terms (stripped (drop i xs)) (stripped zs)) (nothing_left ys i past) ∙ alone_left xs i within

-- the types at a place differ
pub differing : (xs ys : List IdlType) (i : ℕ) (t u : IdlType) → i < length xs → i < length ys → t ≡ get_or xs i t → u ≡ get_or ys i u → same_term (without_annotations (type_term t)) (without_annotations (type_term u)) ≡ false → rest xs ys i ≡ false
differing [] ys i t u in_xs in_ys t_is u_is h = absurd (omega arith)
differing (x ∷ xs) [] i t u in_xs in_ys t_is u_is h = absurd (omega arith)
differing (x ∷ xs) (y ∷ ys) zero t u in_xs in_ys t_is u_is h =
    (λ i. same_term (without_annotations (type_term (sym t_is i))) (without_annotations (type_term (sym u_is i))) && same_terms (stripped xs) (stripped ys)) ∙ ap (λ b. b && same_terms (stripped xs) (stripped ys)) h
differing (x ∷ xs) (y ∷ ys) (suc i) t u in_xs in_ys t_is u_is h = differing xs ys i t u (omega arith) (omega arith) t_is u_is h

-- they are the same
pub same_here : (xs ys : List IdlType) (i : ℕ) (t u : IdlType) → i < length xs → i < length ys → t ≡ get_or xs i t → u ≡ get_or ys i u → same_term (without_annotations (type_term t)) (without_annotations (type_term u)) ≡ true → rest xs ys (i + 1) ≡ rest xs ys i
same_here [] ys i t u in_xs in_ys t_is u_is h = absurd (omega arith)
same_here (x ∷ xs) [] i t u in_xs in_ys t_is u_is h = absurd (omega arith)
same_here (x ∷ xs) (y ∷ ys) zero t u in_xs in_ys t_is u_is h =
    sym ((λ i. same_term (without_annotations (type_term (sym t_is i))) (without_annotations (type_term (sym u_is i))) && same_terms (stripped xs) (stripped ys)) ∙ ap (λ b. b && same_terms (stripped xs) (stripped ys)) h)
same_here (x ∷ xs) (y ∷ ys) (suc i) t u in_xs in_ys t_is u_is h = let further : suc i + 1 ≡ suc (i + 1) = omega arith in ap (rest (x ∷ xs) (y ∷ ys)) further ∙ same_here xs ys i t u (omega arith) (omega arith) t_is u_is h

-- the first list has ended
pub at_end : (xs ys : List IdlType) (i : ℕ) (b : Bool) → length xs ≤ i → i ≤ length xs → b ≡ nat_le (length ys) (length xs) → b ≡ rest xs ys i
at_end xs ys i true past upto is =
    let less : length ys ≤ i = grind arith in
    sym ((λ j. same_terms (stripped (nothing_left xs i past j)) (stripped (nothing_left ys i less j))))
at_end xs ys i false past upto is =
    let more : i < length ys = grind arith in
    sym (ap (λ zs. same_terms (stripped zs) (stripped (drop i ys))) (nothing_left xs i past) ∙ left_alone ys i more)
