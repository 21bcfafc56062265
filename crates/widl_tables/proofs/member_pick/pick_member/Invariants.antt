use Rattle.std.proofs.Common.{◌≡◌, drop, map}
use Rattle.widl_idl.specs.DefinitionTerms.{defs_term}
use Rattle.widl_idl.specs.Flattened.{flattened_members}
use Rattle.widl_idl.specs.Terms.{packed, type_terms}
use Rattle.widl_tables.specs.Decided.{met_step}
use Rattle.widl_tables.specs.Picks.{first_pick, pick_member_of}
use Rattle.widl_tables.proofs.member_pick.pick_member.Given as goal

abbrev pub invariant-loop-step : goal.invariant-loop-step
invariant-loop-step l =
    first_pick l.probed (map (met_step (defs_term l.defs) l.class (flattened_members (packed (type_terms l.members)))) (drop l.step-index l.step-items))
    ≡ pick_member_of (defs_term l.defs) (packed (type_terms l.members)) l.class l.probed
