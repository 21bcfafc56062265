use Rattle.std.proofs.Common.{refl}
use Rattle.widl_engine.proofs.Going.{stays_lead}
use Rattle.widl_engine.proofs.Straight.{bound_stays}
use Rattle.widl_engine.proofs.machine.Machine.bind_literal.Goals as goal

pub returns-in-Ok : goal.returns-in-Ok
returns-in-Ok c p t = stays_lead p c.args.script.now t t t _ _ c.args.self.now _ c.finish_statement.new.self c.finish_statement.result (bound_stays p c.args.script.now t c.args.self.now _ c.args.literal c.requires (c.in-Ok.ensures p t) refl refl refl) (c.finish_statement.ensures p t)
