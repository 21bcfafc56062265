-- The lines of a set, one tuple on.
use Rattle.std.proofs.Common.{◌≡◌, ℕ, ◌+◌, ◌++◌, zero, suc, List, [], ◌∷◌, drop, arith, refl, sym, ap, ◌∙◌}
use Rattle.std.specs.Prelude.{Option, Some, slice_get}
use Rattle.std.proofs.lemmas.List.{append_assoc}
use Rattle.std.proofs.lemmas.Option.{same_Some}
use Rattle.widl_idl.specs.DefinitionTerms.{DefsTerm}
use Rattle.widl_overload.specs.sets.Sets.{TupleTerm}
use Rattle.widl_sets.specs.Lines.{after, lines_from, tuple_line}

drop_suc : (tuples : List TupleTerm) (place : ℕ) (t : TupleTerm) → slice_get tuples place ≡ Some t → drop place tuples ≡ t ∷ drop (suc place) tuples
drop_suc [] place t at = absurd (cc)
drop_suc (u ∷ tuples) zero t at = ap (λ x. x ∷ tuples) (same_Some u t at)
drop_suc (u ∷ tuples) (suc place) t at = drop_suc tuples place t at

first_of_rest : (tuples : List TupleTerm) (place : ℕ) → slice_get (drop place tuples) 0 ≡ slice_get tuples place
first_of_rest [] zero = refl
first_of_rest [] (suc place) = refl
first_of_rest (u ∷ tuples) zero = refl
first_of_rest (u ∷ tuples) (suc place) = first_of_rest tuples place

pub set_more : (defs : DefsTerm) (callee : List ℕ) (tuples : List TupleTerm) (place : ℕ) (t : TupleTerm) (next : Option TupleTerm) (whole old mid new : List ℕ) → slice_get tuples place ≡ Some t → next ≡ slice_get tuples (place + 1)
    → mid ≡ old ++ tuple_line defs callee t → new ≡ mid ++ after defs.ifaces callee tuples t next
    → old ++ lines_from defs callee tuples (drop place tuples) ≡ whole → new ++ lines_from defs callee tuples (drop (place + 1) tuples) ≡ whole
set_more defs callee tuples place t next whole old mid new at next_is first second so =
    let n : place + 1 ≡ suc place = omega arith in
    let line = tuple_line defs callee t in
    let index = after defs.ifaces callee tuples t (slice_get (drop (suc place) tuples) 0) in
    let rest = lines_from defs callee tuples (drop (suc place) tuples) in
    let following : next ≡ slice_get (drop (suc place) tuples) 0 = next_is ∙ ap (slice_get tuples) n ∙ sym (first_of_rest tuples (suc place)) in
    ap (λ k. new ++ lines_from defs callee tuples (drop k tuples)) n
    ∙ ap (λ xs. xs ++ rest) (second ∙ ap (λ xs. xs ++ after defs.ifaces callee tuples t next) first ∙ ap (λ o. (old ++ line) ++ after defs.ifaces callee tuples t o) following)
    ∙ append_assoc (old ++ line) index rest ∙ append_assoc old line (index ++ rest)
    ∙ ap (λ xs. old ++ xs) (sym (append_assoc line index rest))
    ∙ ap (λ ts. old ++ lines_from defs callee tuples ts) (sym (drop_suc tuples place t at)) ∙ so
