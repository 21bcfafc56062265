use Rattle.widl_store.proofs.FewProperties.{none_once}
use Rattle.widl_store.proofs.property_map.PropertyMap.new.Goals as goal

pub invariant_of-result : goal.invariant_of-result
invariant_of-result c = none_once c.new.result.items c.new.ensures.items
