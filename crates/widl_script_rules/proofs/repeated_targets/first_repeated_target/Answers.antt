use Rattle.std.proofs.Common.{◌≡◌, ◌+◌, ◌∙◌, [], arith, rules, ap, sym, length, slice_get, Some, subst, option_map}
use Rattle.std.proofs.lemmas.List.{length-map}
use Rattle.std.proofs.lemmas.Option.{slice_get-map}
use Rattle.widl_first.specs.Keys.{IsFirst}
use Rattle.widl_script_rules.specs.LeastBreak.{place_key}
use Rattle.widl_script_rules.specs.Standings.{standings}
use Rattle.widl_script_rules.specs.Surroundings.{plain_line, plain_lines}
use Rattle.widl_script_rules.specs.Targets.{RepeatsTarget}
use Rattle.widl_script_rules.proofs.LineWalks.{Below, below_all, below_none}
use Rattle.widl_script_rules.proofs.RepeatedTargets.{ArePassed, RepeatsAt, next_passed, next_repeated, none_passed, repeats_back, repeats_there}
use Rattle.widl_script_rules.proofs.Surrounding.{at_place}
use Rattle.widl_script_rules.proofs.repeated_targets.first_repeated_target.Goals as goal

pub lines-init : goal.lines-init
lines-init c = λ list known.
    let lines = plain_lines c.args.lines.now in
    let none : c.new-passed.result.keys ≡ [] = search rules in
    (subst (λ keys. ArePassed list lines keys 0) (sym none) (none_passed list lines), below_none lines (RepeatsAt list lines))

pub lines-preserved : goal.lines-preserved
lines-preserved c = λ list known.
    let lines = plain_lines c.args.lines.now in
    let line = c.index-lines-place.result in
    let k = c.lines.place in
    let is : slice_get lines k ≡ Some (plain_line line) =
    slice_get-map plain_line c.args.lines.now k ∙ ap (option_map plain_line) (at_place c.args.lines.now k line c.lines-test.true c.index-lines-place.is) in
    let there : slice_get c.args.openings.now k ≡ Some c.index-openings-place.result = at_place c.args.openings.now k c.index-openings-place.result (omega (arith, c.lines-test.true, c.requires)) c.index-openings-place.is in
    let opening = known k (plain_line line) c.index-openings-place.result is there in
    let before = c.lines.invariant list known in (
      next_passed list lines k (plain_line line) c.lines.passed.keys c.repeated_in.new.passed.keys is before.0 (c.in_ok-repeated.ensures.passed list opening),
      subst (IsFirst place_key (Below lines (RepeatsAt list lines) (k + 1))) (sym c.first_of-first.ensures)
          (next_repeated list lines k (plain_line line) c.lines.passed.keys c.lines.first c.in_ok-repeated.repeated is before.0 before.1 (c.in_ok-repeated.ensures.first list opening)),
    )

pub returns : goal.returns
returns c = λ list known.
    let lines = plain_lines c.args.lines.now in
    let end : c.lines.place ≡ length lines = omega (arith, c.lines-test.false, c.lines.auto.place-end) ∙ sym (length-map c.args.lines.now plain_line) in
    below_all lines (RepeatsAt list lines) (RepeatsTarget list (standings lines)) c.lines.place c.lines.first end (repeats_there list lines c.lines.place) (repeats_back list lines) (c.lines.invariant list known).1
