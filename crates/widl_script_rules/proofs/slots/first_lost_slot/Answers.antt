use Rattle.std.proofs.Common.{◌+◌, ◌++◌, arith, flat_map, subst, sym, take}
use Rattle.widl_script_tree.specs.declared.steps.Source.{Source}
use Rattle.widl_script_rules.specs.Slots.{lost_set_slot, lost_slot_by, lost_source_slot}
use Rattle.widl_script_rules.specs.Lookups.{overload_term}
use Rattle.widl_script_rules.specs.StepUses.{used_in}
use Rattle.widl_script_rules.specs.Surroundings.{plain_line}
use Rattle.widl_script_rules.specs.UsedPlaces.{FirstAt}
use Rattle.widl_script_rules.proofs.Surrounding.{at_place}
use Rattle.widl_script_rules.proofs.UsedPlaces.{UseAt, all_uses, first_use, next_use, use_at}
use Rattle.widl_script_rules.proofs.slots.first_lost_slot.Goals as goal

pub used-init : goal.used-init
used-init c =
    let o = overload_term c.args.overload in
    let step = c.args.step.now in
    first_use 12 (plain_line c.args.line.now) (lost_slot_by o) (lost_set_slot o step) (used_in step) c.lost_set_slot-first.result c.lost_set_slot-first.ensures

pub used-preserved : goal.used-preserved
used-preserved c =
    let o = overload_term c.args.overload in
    let step = c.args.step.now in
    let line = plain_line c.args.line.now in
    let k = c.used.each-index in
    let x = c.each-item.result in
    let u : UseAt (used_in step) k x = use_at c.args.used.now (used_in step) k x c.requires (at_place c.args.used.now k x c.used-test.true c.each-item.is) in
    let here : FirstAt 12 line (lost_slot_by o u.use_of) c.lost_source_slot.result = subst (λ (s : Source). FirstAt 12 line (lost_source_slot o u.use_of.word s) c.lost_source_slot.result) u.source (c.lost_source_slot.ensures u.use_of.word u.word) in
    subst (λ r. FirstAt 12 line ((lost_set_slot o step) ++ flat_map (lost_slot_by o) (take (k + 1) (used_in step))) r) (sym c.first_of-first.ensures)
    (next_use 12 line (lost_slot_by o) (lost_set_slot o step) (used_in step) k u.use_of c.used.first c.lost_source_slot.result u.is c.used.invariant here)

pub returns : goal.returns
returns c =
    let o = overload_term c.args.overload in
    let step = c.args.step.now in
    all_uses 12 (plain_line c.args.line.now) (lost_slot_by o) (lost_set_slot o step) c.args.used.now (used_in step) c.used.each-index c.used.first c.requires (omega (arith, c.used-test.false)) c.used.invariant
