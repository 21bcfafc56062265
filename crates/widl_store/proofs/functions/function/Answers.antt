use Rattle.widl_store.proofs.RealmSteps.{function_made}
use Rattle.widl_store.proofs.functions.function.Goals as goal

pub returns-in-Ok : goal.returns-in-Ok
returns-in-Ok c = function_made c.args.what c.args.arguments c.args.name.now c.in_ok-object.object c.describe.new.object c.in_ok-object.ensures c.in-Ok.ensures
