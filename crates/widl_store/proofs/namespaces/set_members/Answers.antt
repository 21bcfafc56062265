use Rattle.widl_store.proofs.RealmSteps.{members_made}
use Rattle.widl_store.proofs.namespaces.set_members.Goals as goal

pub returns : goal.returns
returns c = members_made c.args.id c.args.space.now c.as_slice.result.now c.args.object.now c.set_operations.new.object c.set.new.self c.in_ok-name.name c.text.result c.as_slice.ensures c.in_ok-set_operations.ensures c.in_ok-name.ensures c.text.ensures c.in_ok-set.ensures
