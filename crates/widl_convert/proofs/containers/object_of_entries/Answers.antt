use Rattle.std.proofs.Common.{◌∙◌, ap}
use Rattle.widl_value.specs.IdlTerms.{entry_terms, packed_entries}
use Rattle.widl_convert.specs.Loads.{items_load}
use Rattle.widl_convert.proofs.OutgoingItems.{entries_cost_items, weighs}
use Rattle.widl_convert.proofs.containers.object_of_entries.Goals as goal

pub returns-clause-weight : goal.returns-clause-weight
returns-clause-weight c = weighs c.container_of.result _ _ (ap items_load c.in_ok-names.ensures.items ∙ entries_cost_items (packed_entries (entry_terms c.args.entries))) c.container_of.ensures.weight
