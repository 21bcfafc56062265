use Rattle.std.proofs.Common.{◌≡◌, ◌≤◌, ◌++◌, length}
use Rattle.std.specs.Prelude.{flat_map, reverse}
use Rattle.widl_idl.specs.DefinitionTerms.{defs_term}
use Rattle.widl_tables.specs.MemberOrder.{members_in_order}
use Rattle.widl_convert.specs.Members.{own_members}
use Rattle.widl_convert.proofs.LevelMembers.{line_members}
use Rattle.widl_convert.proofs.members_left.MembersLeft.of.Given as goal

abbrev pub invariant-loop-level : goal.invariant-loop-level
invariant-loop-level l = (l.links ≤ length (defs_term l.tables.defs).dicts) × (members_in_order (defs_term l.tables.defs) l.dictionary ≡ line_members (defs_term l.tables.defs) l.links l.at ++ flat_map (own_members (defs_term l.tables.defs)) (reverse l.levels.items))

abbrev pub decreases-loop-level : goal.decreases-loop-level
decreases-loop-level l = l.links
