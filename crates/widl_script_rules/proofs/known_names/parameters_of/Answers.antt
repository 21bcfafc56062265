use Rattle.std.proofs.Common.{◌≡◌, ◌∙◌, ◌&&◌, ◌||◌, ap, arith, length, lt-ltb, nat_eq, option_map, slice_get, Some, sym}
use Rattle.std.proofs.lemmas.List.{length-map}
use Rattle.std.proofs.lemmas.Option.{same_Some, slice_get-map, slice_get_within}
use Rattle.widl_lines.specs.TextBreaks.{Line}
use Rattle.widl_script_rules.specs.Names.{has_name, parameters_in}
use Rattle.widl_script_rules.specs.Surroundings.{plain_line, plain_lines}
use Rattle.widl_script_rules.proofs.BoundWords.{next_opening}
use Rattle.widl_script_rules.proofs.Surrounding.{at_place, word_of}
use Rattle.widl_script_rules.proofs.known_names.parameters_of.Goals as goal

pub add_parameters-requires : goal.add_parameters-requires
add_parameters-requires c = word_of c.args.lines.now c.args.words.now c.lines.place c.index-lines-place.result _ c.requires.words c.requires.count c.lines-test.true c.index-lines-place.is

pub lines-preserved : goal.lines-preserved
lines-preserved c = λ place opening text at.
    let lines = plain_lines c.args.lines.now in
    let k = c.lines.place in
    let line = c.index-lines-place.result in
    let is : slice_get lines k ≡ Some (plain_line line) = slice_get-map plain_line c.args.lines.now k ∙ ap (option_map plain_line) (at_place c.args.lines.now k line c.lines-test.true c.index-lines-place.is) in
    c.in_ok-add_parameters.ensures place text ∙ ap (λ b. b || (nat_eq place k && has_name (parameters_in (plain_line line)) text)) (c.lines.invariant place opening text at)
    ∙ next_opening place k (has_name (parameters_in opening) text) (has_name (parameters_in (plain_line line)) text)
    (λ e. ap (λ (o : Line). has_name (parameters_in o) text) (same_Some opening (plain_line line) (sym at ∙ ap (slice_get lines) e ∙ is)))

pub returns : goal.returns
returns c = λ place opening text at.
    let lines = plain_lines c.args.lines.now in
    let k = c.lines.place in
    let end : k ≡ length lines = omega (arith, c.lines-test.false, c.lines.auto.place-end) ∙ sym (length-map c.args.lines.now plain_line) in
    c.lines.invariant place opening text at ∙ ap (λ b. b && has_name (parameters_in opening) text) (lt-ltb place k (omega (arith, slice_get_within lines place opening at, end)))
