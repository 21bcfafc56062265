use Rattle.std.proofs.Common.{◌≡◌, ◌+◌, ◌∙◌, arith, ap, sym, length, subst, option_map, take, flat_map}
use Rattle.std.proofs.lemmas.List.{length-map}
use Rattle.std.proofs.lemmas.Option.{slice_get-map}
use Rattle.widl_script_rules.specs.RepeatedParameters.{repeated_parameters_in}
use Rattle.widl_script_rules.specs.Standings.{standings}
use Rattle.widl_script_rules.specs.Surroundings.{plain_line, plain_lines}
use Rattle.widl_script_rules.proofs.FirstPlaces.{Firsts, next_first, whole_first}
use Rattle.widl_script_rules.proofs.Surrounding.{at_place, word_of}
use Rattle.widl_script_rules.proofs.repeated_parameters.first_repeated_parameter.Goals as goal

pub repeated_in-requires : goal.repeated_in-requires
repeated_in-requires c = word_of c.args.lines.now c.args.words.now c.lines.place c.index-lines-place.result _ c.requires.words c.requires.count c.lines-test.true c.index-lines-place.is

pub lines-preserved : goal.lines-preserved
lines-preserved c =
    let raw = c.args.lines.now in
    let k = c.lines.place in
    subst (λ r. Firsts (flat_map repeated_parameters_in (take (k + 1) (standings (plain_lines raw)))) r) (sym c.first_of-first.ensures)
    (next_first repeated_parameters_in (plain_lines raw) k (plain_line c.index-lines-place.result) c.lines.first c.in_ok-repeated.repeated
    (slice_get-map plain_line raw k ∙ ap (option_map plain_line) (at_place raw k c.index-lines-place.result c.lines-test.true c.index-lines-place.is)) c.lines.invariant c.in_ok-repeated.ensures)

pub returns : goal.returns
returns c =
    let lines = plain_lines c.args.lines.now in
    let end : c.lines.place ≡ length lines = omega (arith, c.lines-test.false, c.lines.auto.place-end) ∙ sym (length-map c.args.lines.now plain_line) in
    whole_first repeated_parameters_in lines c.lines.place c.lines.first end c.lines.invariant
