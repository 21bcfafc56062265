use Rattle.std.proofs.Common.{◌∙◌, ap}
use Rattle.widl_value.specs.IdlTerms.{member_terms, packed_members}
use Rattle.widl_convert.specs.Loads.{items_load}
use Rattle.widl_convert.proofs.OutgoingItems.{members_cost_items, weighs}
use Rattle.widl_convert.proofs.containers.object_of_members.Goals as goal

pub returns-clause-weight : goal.returns-clause-weight
returns-clause-weight c = weighs c.container_of.result _ _ (ap items_load c.in_ok-names.ensures.items ∙ members_cost_items (packed_members (member_terms c.args.members))) c.container_of.ensures.weight
