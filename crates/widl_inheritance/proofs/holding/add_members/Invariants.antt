use Rattle.std.proofs.Common.{map}
use Rattle.widl_idl.specs.DefinitionTerms.{dict_term}
use Rattle.widl_inheritance.specs.HoldingGraph.{IsHoldingGraph}
use Rattle.widl_inheritance.proofs.holding.add_members.Given as goal

abbrev pub invariant-loop-dict : goal.invariant-loop-dict
invariant-loop-dict l = IsHoldingGraph (map dict_term l.dicts) l.dict-index l.graph
