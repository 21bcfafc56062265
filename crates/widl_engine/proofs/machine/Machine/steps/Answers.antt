use Rattle.std.proofs.Common.{refl}
use Rattle.widl_engine.specs.declared.machine.Machine.{Machine}
use Rattle.widl_engine.specs.declared.moves.Move.TheVariants as move
use Rattle.widl_engine.specs.Frames.{program_of}
use Rattle.widl_engine.proofs.Leading.{stepped, then_continues}
use Rattle.widl_engine.proofs.machine.Machine.steps.Goals as goal

pub returns-in-Ok-begin : goal.returns-in-Ok-begin
returns-in-Ok-begin c t = let n : Machine = record { due = c.args.self.now.due; frames = c.push.new.frames; place = c.args.self.now.place; taken = c.args.self.now.taken; budget = c.args.self.now.budget } in then_continues (program_of c.args.tables.now c.args.script.now) c.args.script.now t t t (move.Steps c.args.frame c.args.job) c.in-Ok-begin.next c.args.self.now n n c.more.result (stepped (program_of c.args.tables.now c.args.script.now) c.args.script.now t c.args.self.now n c.in-Ok-begin.next c.args.frame c.args.job refl refl refl c.in-Ok.ensures (c.in-Ok-begin.ensures c.requires.read)) (c.more.ensures (program_of c.args.tables.now c.args.script.now) c.args.script.now t n)
