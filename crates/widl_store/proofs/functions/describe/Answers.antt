use Rattle.widl_store.proofs.RealmSteps.{function_described}
use Rattle.widl_store.proofs.functions.describe.Goals as goal

pub returns : goal.returns
returns c = function_described c.args.arguments c.args.name.now c.args.object.now c.set_length.new.object c.set_name.new.object c.in_ok-set_length.ensures c.in_ok-set_name.ensures
