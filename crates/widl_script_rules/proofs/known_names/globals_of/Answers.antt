use Rattle.std.proofs.Common.{◌≡◌, ◌∙◌, ◌||◌, ap, arith, length, option_map, slice_get, Some, sym}
use Rattle.std.proofs.lemmas.List.{length-map}
use Rattle.std.proofs.lemmas.Option.{slice_get-map}
use Rattle.widl_script_rules.specs.Names.{has_name}
use Rattle.widl_script_rules.specs.Standings.{Standing, standings}
use Rattle.widl_script_rules.specs.Surroundings.{around_at, bound_by_global, plain_line, plain_lines}
use Rattle.widl_script_rules.proofs.BoundWords.{all_globals, names_next}
use Rattle.widl_script_rules.proofs.FirstPlaces.{taken_whole}
use Rattle.widl_script_rules.proofs.Surrounding.{at_place, word_of}
use Rattle.widl_script_rules.proofs.known_names.globals_of.Goals as goal

pub add_globals-requires : goal.add_globals-requires
add_globals-requires c = word_of c.args.lines.now c.args.words.now c.lines.place c.index-lines-place.result _ c.requires.words c.requires.words_count c.lines-test.true c.index-lines-place.is

pub lines-preserved : goal.lines-preserved
lines-preserved c = λ text.
    let lines = plain_lines c.args.lines.now in
    let k = c.lines.place in
    let line = c.index-lines-place.result in
    let is : slice_get lines k ≡ Some (plain_line line) = slice_get-map plain_line c.args.lines.now k ∙ ap (option_map plain_line) (at_place c.args.lines.now k line c.lines-test.true c.index-lines-place.is) in
    let s : Standing = record { around = around_at lines k; line = plain_line line } in
    c.in_ok-add_globals.ensures lines (around_at lines k) text (c.requires.each k _ (omega (arith, c.lines-test.true, c.requires.count))).function
    ∙ ap (λ b. b || has_name (bound_by_global s) text) (c.lines.invariant text) ∙ sym (names_next bound_by_global lines k (plain_line line) text is)

pub returns : goal.returns
returns c = λ text.
    let lines = plain_lines c.args.lines.now in
    let k = c.lines.place in
    let end : k ≡ length lines = omega (arith, c.lines-test.false, c.lines.auto.place-end) ∙ sym (length-map c.args.lines.now plain_line) in
    c.lines.invariant text ∙ ap (λ ws. has_name ws text) (taken_whole bound_by_global lines k end) ∙ all_globals (standings lines) text
