use Rattle.std.proofs.Common.{refl}
use Rattle.widl_store.specs.Order.{gathered}
use Rattle.widl_store.proofs.numbered_map.NumberedMap.new.Goals as goal

pub returns : goal.returns
unfolding gathered
returns c = refl
