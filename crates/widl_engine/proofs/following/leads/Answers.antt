use Rattle.widl_engine.proofs.Going.{charge_leads}
use Rattle.widl_engine.proofs.following.leads.Goals as goal

pub returns-in-Ok : goal.returns-in-Ok
returns-in-Ok c p t m = charge_leads p c.args.script.now t t c.args.charge c.in-Ok.next m m c.more.result (c.in-Ok.ensures p) (c.more.ensures p c.args.script.now t m)
