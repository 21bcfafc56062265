use Rattle.std.proofs.Common.{◌++◌, flat_map, take}
use Rattle.widl_script_rules.specs.Arguments.{lost_by, lost_call}
use Rattle.widl_script_rules.specs.Lookups.{overload_term}
use Rattle.widl_script_rules.specs.StepUses.{invoked_in, used_in}
use Rattle.widl_script_rules.specs.Surroundings.{plain_line}
use Rattle.widl_script_rules.specs.UsedPlaces.{FirstAt}
use Rattle.widl_script_rules.proofs.arguments.first_lost_argument.Given as goal

abbrev pub invariant-used : goal.invariant-used
invariant-used l = FirstAt 11 (plain_line l.line) (flat_map (lost_call (overload_term l.overload)) (invoked_in l.step) ++ flat_map (lost_by (overload_term l.overload)) (take l.each-index (used_in l.step))) l.first
