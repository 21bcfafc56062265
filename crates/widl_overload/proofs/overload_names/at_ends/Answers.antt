use Rattle.std.proofs.Common.{◌≡◌, ◌-◌, length, map, ap, subst, sym, ◌∙◌}
use Rattle.std.specs.Prelude.{Some, option_map, slice_get}
use Rattle.std.proofs.lemmas.List.{length-map}
use Rattle.std.proofs.lemmas.Option.{slice_get-map}
use Rattle.widl_idl.specs.DefinitionTerms.{sig_term}
use Rattle.widl_overload.specs.sets.OverloadNames.{number_of}
use Rattle.widl_overload.specs.rules.OverloadRules.{AtOverloads}
use Rattle.widl_overload.specs.rules.OverloadViolations.{IsOnlyViolation}
use Rattle.widl_overload.proofs.OnlyViolations.{names_only, violation}
use Rattle.widl_overload.proofs.overload_names.at_ends.Goals as goal

pub returns : goal.returns
returns c = λ tuples are.
    let sigs = map sig_term c.args.sigs.now in
    let first : Some c.in_ok-first.first.now ≡ option_map number_of (slice_get tuples 0) = c.in_ok-first.ensures.value ∙ ap (λ ns. slice_get ns 0) are ∙ slice_get-map number_of tuples 0 in
    let last : Some c.in_ok-last.last.now ≡ option_map number_of (slice_get tuples (length tuples - 1)) =
    c.in_ok-last.ensures.value ∙ ap (λ ns. slice_get ns (length ns - 1)) are ∙ slice_get-map number_of tuples (length (map number_of tuples) - 1) ∙ ap (λ n. option_map number_of (slice_get tuples (n - 1))) (length-map tuples number_of) in
    subst (λ other. IsOnlyViolation (AtOverloads sigs tuples) (violation c.in_ok-at.at other)) (sym c.overload_place-2.ensures)
    (names_only sigs tuples c.in_ok-first.first.now c.in_ok-last.last.now c.in_ok-at.at first last c.in_ok-at.ensures)
