use Rattle.std.proofs.Common.{◌≡◌, [], take}
use Rattle.widl_first.specs.Keys.{IsFirst}
use Rattle.widl_fits.specs.Fitting.{Knows}
use Rattle.widl_idl.specs.DefinitionTerms.{defs_term}
use Rattle.widl_script_rules.specs.LeastBreak.{place_key}
use Rattle.widl_script_rules.specs.Lookups.{overload_term}
use Rattle.widl_script_rules.specs.StepUses.{used_in}
use Rattle.widl_script_rules.specs.Surroundings.{plain_line}
use Rattle.widl_script_rules.proofs.MisfitTests.{Among}
use Rattle.widl_script_rules.proofs.misfits.first_misfit.Given as goal

abbrev pub invariant-used : goal.invariant-used
invariant-used l = Knows (defs_term l.list) l.tables → (defs_term l.list).ifaces ≡ [] → IsFirst place_key (Among (defs_term l.list) (overload_term l.overload) l.step (plain_line l.line) (take l.each-index (used_in l.step))) l.first
