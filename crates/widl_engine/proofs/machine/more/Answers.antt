use Rattle.std.proofs.Common.{subst, sym}
use Rattle.widl_engine.specs.declared.moves.Move.{Move}
use Rattle.widl_engine.specs.Machine.{Stays, moves_on}
use Rattle.widl_engine.proofs.Leading.{stays_here}
use Rattle.widl_engine.proofs.machine.more.Goals as goal

pub returns-in-Ok : goal.returns-in-Ok
returns-in-Ok c p s t m = subst (λ (k : Move). Stays p s t (moves_on p s c.args.next m) m t (moves_on p s k m) m) (sym c.in-Ok.ensures.ok) (stays_here p s t (moves_on p s c.args.next m) m)
