use Rattle.widl_store.proofs.RealmSteps.{namespace_made}
use Rattle.widl_store.proofs.namespaces.namespace_object.Goals as goal

pub returns-in-Ok : goal.returns-in-Ok
returns-in-Ok c = namespace_made c.args.id c.args.space.now c.len.result c.in_ok-object.object c.set_members.new.object c.len.ensures c.in_ok-object.ensures c.in-Ok.ensures
