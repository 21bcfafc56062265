use Rattle.std.proofs.Common.{◌≡◌, ◌+◌, ◌∙◌, arith, ap, sym, length, slice_get, Some, subst, option_map, take, flat_map}
use Rattle.std.proofs.lemmas.List.{length-map}
use Rattle.std.proofs.lemmas.Option.{slice_get-map}
use Rattle.widl_script_rules.specs.Placing.{misplaced_in}
use Rattle.widl_script_rules.specs.Standings.{standings}
use Rattle.widl_script_rules.specs.Surroundings.{around_at, plain_line, plain_lines}
use Rattle.widl_script_rules.proofs.FirstPlaces.{Firsts, next_first, whole_first}
use Rattle.widl_script_rules.proofs.Surrounding.{at_place, word_of}
use Rattle.widl_script_rules.proofs.placing.first_misplaced_word.Goals as goal

pub misplaced_in-requires : goal.misplaced_in-requires
misplaced_in-requires c = word_of c.args.lines.now c.args.words.now c.lines.place c.index-lines-place.result _ c.requires.words c.requires.words_count c.lines-test.true c.index-lines-place.is

pub lines-preserved : goal.lines-preserved
lines-preserved c =
    let lines = plain_lines c.args.lines.now in
    let line = c.index-lines-place.result in
    let is : slice_get lines c.lines.place ≡ Some (plain_line line) =
    slice_get-map plain_line c.args.lines.now c.lines.place ∙ ap (option_map plain_line) (at_place c.args.lines.now c.lines.place line c.lines-test.true c.index-lines-place.is) in
    subst (λ r. Firsts (flat_map misplaced_in (take (c.lines.place + 1) (standings lines))) r) (sym c.first_of-first.ensures)
    (next_first misplaced_in lines c.lines.place (plain_line line) c.lines.first c.misplaced_in.result is c.lines.invariant
    (c.misplaced_in.ensures _ (around_at lines c.lines.place) (c.requires.each c.lines.place _ (omega (arith, c.lines-test.true, c.requires.count)))))

pub returns : goal.returns
returns c =
    let lines = plain_lines c.args.lines.now in
    let end : c.lines.place ≡ length lines = omega (arith, c.lines-test.false, c.lines.auto.place-end) ∙ sym (length-map c.args.lines.now plain_line) in
    whole_first misplaced_in lines c.lines.place c.lines.first end c.lines.invariant
