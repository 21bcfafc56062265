use Rattle.std.proofs.Common.{◌++◌, flat_map, take}
use Rattle.widl_script_rules.specs.Slots.{lost_set_slot, lost_slot_by}
use Rattle.widl_script_rules.specs.Lookups.{overload_term}
use Rattle.widl_script_rules.specs.StepUses.{used_in}
use Rattle.widl_script_rules.specs.Surroundings.{plain_line}
use Rattle.widl_script_rules.specs.UsedPlaces.{FirstAt}
use Rattle.widl_script_rules.proofs.slots.first_lost_slot.Given as goal

abbrev pub invariant-used : goal.invariant-used
invariant-used l = FirstAt 12 (plain_line l.line) (lost_set_slot (overload_term l.overload) l.step ++ flat_map (lost_slot_by (overload_term l.overload)) (take l.each-index (used_in l.step))) l.first
