use Rattle.widl_engine.proofs.Acting.{added_performed}
use Rattle.widl_engine.proofs.perform.add.Goals as goal

pub returns-in-Ok : goal.returns-in-Ok
returns-in-Ok c p = added_performed p c.args.script.now c.args.store.now c.add_object.new.store c.args.place.now c.args.new c.args.then c.in-Ok.object c.made.result c.in-Ok.ensures (c.made.ensures p c.args.script.now)
