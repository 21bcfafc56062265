use Rattle.std.proofs.Common.{◌≡◌, ◌+◌, ◌∙◌, arith, ap, sym, length, slice_get, Option, Some, subst, option_map}
use Rattle.std.proofs.lemmas.List.{length-map}
use Rattle.std.proofs.lemmas.Option.{slice_get-map}
use Rattle.widl_first.specs.Keys.{IsFirst}
use Rattle.widl_lines.specs.declared.script_place.ScriptPlace.{ScriptPlace}
use Rattle.widl_script_rules.specs.LeastBreak.{place_key}
use Rattle.widl_script_rules.specs.Standings.{standings}
use Rattle.widl_script_rules.specs.StepWalks.{InLine, InScript}
use Rattle.widl_script_rules.specs.Surroundings.{around_at, plain_line, plain_lines}
use Rattle.widl_script_rules.proofs.LineWalks.{Below, below_all, below_next, below_none}
use Rattle.widl_script_rules.proofs.StepWalks.{in_lines, in_script}
use Rattle.widl_script_rules.proofs.Surrounding.{at_place}
use Rattle.widl_script_rules.proofs.step_walk.first_step_break.Goals as goal

pub lines-init : goal.lines-init
lines-init c = λ list takes known. below_none (plain_lines c.args.lines.now) (λ k line p. InLine list (around_at (plain_lines c.args.lines.now) k) line p)

pub lines-preserved : goal.lines-preserved
lines-preserved c = λ list takes known.
    let lines = plain_lines c.args.lines.now in
    let line = c.index-lines-place.result in
    let k = c.lines.place in
    let outer = around_at lines k in
    let is : slice_get lines k ≡ Some (plain_line line) =
    slice_get-map plain_line c.args.lines.now k ∙ ap (option_map plain_line) (at_place c.args.lines.now k line c.lines-test.true c.index-lines-place.is) in
    let around = c.requires.around k _ (omega (arith, c.lines-test.true, c.requires.arounds)) in
    let count : length c.args.openings.now ≡ length lines = c.requires.openings ∙ sym (length-map c.args.lines.now plain_line) in
    let one = c.overload_around-overload.ensures list lines k outer count known around in
    subst (λ (r : Option ScriptPlace). IsFirst place_key (Below lines (λ k line p. InLine list (around_at lines k) line p) (k + 1)) r) (sym c.first_of-first.ensures)
    (below_next lines (λ k line p. InLine list (around_at lines k) line p) k (plain_line line) c.lines.first c.in_ok-found.found is (c.lines.invariant list takes known)
    (c.in_ok-found.ensures list outer takes one (c.requires.formed k (plain_line line) is)))

pub returns : goal.returns
returns c = λ list takes known.
    let lines = plain_lines c.args.lines.now in
    let end : c.lines.place ≡ length lines = omega (arith, c.lines-test.false, c.lines.auto.place-end) ∙ sym (length-map c.args.lines.now plain_line) in
    below_all lines (λ k line p. InLine list (around_at lines k) line p) (InScript list (standings lines)) c.lines.place c.lines.first end (λ p h. in_script list lines c.lines.place p h) (λ p h. in_lines list lines p h) (c.lines.invariant list takes known)
