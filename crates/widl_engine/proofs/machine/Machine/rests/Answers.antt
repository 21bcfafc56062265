use Rattle.std.proofs.Common.{refl}
use Rattle.widl_engine.proofs.Leading.{rested}
use Rattle.widl_engine.proofs.machine.Machine.rests.Goals as goal

pub returns : goal.returns
returns c p s t = rested p s t c.args.self.now _ c.args.charge c.falls_due.ensures refl refl refl refl
