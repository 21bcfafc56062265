use Rattle.std.proofs.Common.{List, ℕ, refl, subst, sym}
use Rattle.widl_script_tree.specs.declared.steps.StepLine.{StepLine}
use Rattle.widl_script_rules.specs.Lookups.{overload_term}
use Rattle.widl_script_rules.specs.Slots.{lost_set_slot, lost_slot}
use Rattle.widl_script_rules.specs.Surroundings.{plain_line}
use Rattle.widl_script_rules.specs.UsedPlaces.{FirstAt}
use Rattle.widl_script_rules.proofs.slots.lost_set_slot.Goals as goal

pub returns-in-SetSlot : goal.returns-in-SetSlot
returns-in-SetSlot c =
    let line = plain_line c.args.line.now in
    let o = overload_term c.args.overload in
    let r = c.lost_slot.result in
    subst (λ (s : StepLine). FirstAt 12 line (lost_set_slot o s) r) (sym c.in-SetSlot.is) (subst (λ (t : List ℕ). FirstAt 12 line (lost_slot o 1 t) r) c.as_slice.ensures (c.lost_slot.ensures 1 refl))
