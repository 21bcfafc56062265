use Rattle.std.proofs.Common.{List}
use Rattle.widl_idl.specs.DefinitionTerms.{DictTerm}
use Rattle.widl_tables.specs.MemberTables.{AreKnown}
use Rattle.widl_tables.proofs.level.unknown.Given as goal

abbrev pub invariant-loop-n : goal.invariant-loop-n
invariant-loop-n l = (dicts : List DictTerm) → AreKnown dicts l.known.items
