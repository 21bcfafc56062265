use Rattle.widl_engine.specs.declared.moves.Move.TheVariants as move
use Rattle.widl_engine.specs.Frames.{program_of}
use Rattle.widl_engine.proofs.Leading.{then_continues, went}
use Rattle.widl_engine.proofs.advance.goes.Goals as goal

pub returns-in-Ok : goal.returns-in-Ok
returns-in-Ok c t m = then_continues (program_of c.args.tables.now c.args.script.now) c.args.script.now t t t (move.Goes c.args.job) c.in-Ok.next m m m c.more.result (went (program_of c.args.tables.now c.args.script.now) c.args.script.now t m c.in-Ok.next c.args.job (c.in-Ok.ensures c.requires.read)) (c.more.ensures (program_of c.args.tables.now c.args.script.now) c.args.script.now t m)
