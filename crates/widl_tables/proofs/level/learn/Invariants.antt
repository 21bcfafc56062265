use Rattle.std.proofs.Common.{length, map}
use Rattle.widl_idl.specs.DefinitionTerms.{dict_term}
use Rattle.widl_tables.specs.MemberTables.{AreKnown}
use Rattle.widl_tables.proofs.level.learn.Given as goal

abbrev pub invariant-loop-number : goal.invariant-loop-number
invariant-loop-number l = AreKnown (map dict_term l.dicts) l.known.items

abbrev pub decreases-loop-number : goal.decreases-loop-number
decreases-loop-number l = length l.line.items
