use Rattle.std.proofs.Common.{map}
use Rattle.widl_idl.specs.DefinitionTerms.{dict_term}
use Rattle.widl_inheritance.proofs.HoldingNodes.{all_members}
use Rattle.widl_inheritance.proofs.HoldingSteps.{are_nodes}
use Rattle.widl_inheritance.proofs.holding.Holdings.of.Goals as goal

pub over-requires : goal.over-requires
over-requires c = are_nodes (map dict_term c.args.dicts.now) c.add_members.new.graph (all_members c.args.dicts.now c.add_members.new.graph c.in_ok-add_members.ensures)
