use Rattle.std.proofs.Common.{◌≡◌, length}
use Rattle.widl_idl.specs.DefinitionTerms.{defs_term}
use Rattle.widl_convert.specs.Members.{members_left}
use Rattle.widl_convert.proofs.members_left.MembersLeft.next.Given as goal

abbrev pub invariant-loop-dictionary : goal.invariant-loop-dictionary
invariant-loop-dictionary l = members_left (defs_term l.tables.defs) l.initial.self ≡ members_left (defs_term l.tables.defs) l.self

abbrev pub decreases-loop-dictionary : goal.decreases-loop-dictionary
decreases-loop-dictionary l = length l.self.levels.items
