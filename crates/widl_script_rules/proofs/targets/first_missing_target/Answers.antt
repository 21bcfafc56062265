use Rattle.std.proofs.Common.{◌≡◌, ◌+◌, ◌∙◌, arith, ap, sym, length, slice_get, Some, subst, option_map}
use Rattle.std.proofs.lemmas.List.{length-map}
use Rattle.std.proofs.lemmas.Option.{slice_get-map}
use Rattle.widl_first.specs.Keys.{IsFirst}
use Rattle.widl_script_rules.specs.LeastBreak.{place_key}
use Rattle.widl_script_rules.specs.Lookups.{LacksIn}
use Rattle.widl_script_rules.specs.Standings.{standings}
use Rattle.widl_script_rules.specs.Surroundings.{plain_line, plain_lines}
use Rattle.widl_script_rules.specs.Targets.{LacksTarget}
use Rattle.widl_script_rules.proofs.LineWalks.{Below, below_all, below_next, below_none}
use Rattle.widl_script_rules.proofs.Lookups.{lacks_back, lacks_there}
use Rattle.widl_script_rules.proofs.Surrounding.{at_place}
use Rattle.widl_script_rules.proofs.targets.first_missing_target.Goals as goal

pub lines-init : goal.lines-init
lines-init c = λ list known. below_none (plain_lines c.args.lines.now) (λ k line p. LacksIn list line p)

pub lines-preserved : goal.lines-preserved
lines-preserved c = λ list known.
    let lines = plain_lines c.args.lines.now in
    let line = c.index-lines-place.result in
    let k = c.lines.place in
    let is : slice_get lines k ≡ Some (plain_line line) =
    slice_get-map plain_line c.args.lines.now k ∙ ap (option_map plain_line) (at_place c.args.lines.now k line c.lines-test.true c.index-lines-place.is) in
    let there : slice_get c.args.openings.now k ≡ Some c.index-openings-place.result = at_place c.args.openings.now k c.index-openings-place.result (omega (arith, c.lines-test.true, c.requires)) c.index-openings-place.is in
    subst (λ r. IsFirst place_key (Below lines (λ k line p. LacksIn list line p) (k + 1)) r) (sym c.first_of-first.ensures)
    (below_next lines (λ k line p. LacksIn list line p) k (plain_line line) c.lines.first c.missing_in.result is (c.lines.invariant list known) (c.missing_in.ensures list (known k (plain_line line) c.index-openings-place.result is there)))

pub returns : goal.returns
returns c = λ list known.
    let lines = plain_lines c.args.lines.now in
    let end : c.lines.place ≡ length lines = omega (arith, c.lines-test.false, c.lines.auto.place-end) ∙ sym (length-map c.args.lines.now plain_line) in
    below_all lines (λ k line p. LacksIn list line p) (LacksTarget list (standings lines)) c.lines.place c.lines.first end (λ p h. lacks_there list lines c.lines.place p h) (λ p h. lacks_back list lines p h) (c.lines.invariant list known)
