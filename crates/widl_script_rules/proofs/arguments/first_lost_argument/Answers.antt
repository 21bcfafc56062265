use Rattle.std.proofs.Common.{◌+◌, ◌++◌, arith, flat_map, subst, sym, take}
use Rattle.widl_script_tree.specs.declared.steps.Source.{Source}
use Rattle.widl_script_rules.specs.Arguments.{lost_by, lost_call, lost_source}
use Rattle.widl_script_rules.specs.Lookups.{overload_term}
use Rattle.widl_script_rules.specs.StepUses.{invoked_in, used_in}
use Rattle.widl_script_rules.specs.Surroundings.{plain_line}
use Rattle.widl_script_rules.specs.UsedPlaces.{FirstAt}
use Rattle.widl_script_rules.proofs.Surrounding.{at_place}
use Rattle.widl_script_rules.proofs.UsedPlaces.{UseAt, all_uses, first_use, next_use, use_at}
use Rattle.widl_script_rules.proofs.arguments.first_lost_argument.Goals as goal

pub used-init : goal.used-init
used-init c =
    let o = overload_term c.args.overload in
    let step = c.args.step.now in
    first_use 11 (plain_line c.args.line.now) (lost_by o) (flat_map (lost_call o) (invoked_in step)) (used_in step) c.lost_call-first.result c.lost_call-first.ensures

pub used-preserved : goal.used-preserved
used-preserved c =
    let o = overload_term c.args.overload in
    let step = c.args.step.now in
    let line = plain_line c.args.line.now in
    let k = c.used.each-index in
    let x = c.each-item.result in
    let u : UseAt (used_in step) k x = use_at c.args.used.now (used_in step) k x c.requires (at_place c.args.used.now k x c.used-test.true c.each-item.is) in
    let here : FirstAt 11 line (lost_by o u.use_of) c.lost_source.result = subst (λ (s : Source). FirstAt 11 line (lost_source o u.use_of.word s) c.lost_source.result) u.source (c.lost_source.ensures u.use_of.word u.word) in
    subst (λ r. FirstAt 11 line ((flat_map (lost_call o) (invoked_in step)) ++ flat_map (lost_by o) (take (k + 1) (used_in step))) r) (sym c.first_of-first.ensures)
    (next_use 11 line (lost_by o) (flat_map (lost_call o) (invoked_in step)) (used_in step) k u.use_of c.used.first c.lost_source.result u.is c.used.invariant here)

pub returns : goal.returns
returns c =
    let o = overload_term c.args.overload in
    let step = c.args.step.now in
    all_uses 11 (plain_line c.args.line.now) (lost_by o) (flat_map (lost_call o) (invoked_in step)) c.args.used.now (used_in step) c.used.each-index c.used.first c.requires (omega (arith, c.used-test.false)) c.used.invariant
