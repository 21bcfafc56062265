use Rattle.std.proofs.Common.{map}
use Rattle.widl_idl.specs.DefinitionTerms.{dict_term}
use Rattle.widl_idl.specs.First.{FirstWhere, Upto}
use Rattle.widl_inheritance.specs.HoldingGraph.{FlaggedAfter}
use Rattle.widl_inheritance.proofs.holding.first_flagged.Given as goal

abbrev pub invariant-loop-number : goal.invariant-loop-number
invariant-loop-number l = FirstWhere (Upto (FlaggedAfter l.flags) (map dict_term l.dicts) l.number) l.best
