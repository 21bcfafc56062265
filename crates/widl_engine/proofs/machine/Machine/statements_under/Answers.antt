use Rattle.std.proofs.Common.{rules}
use Rattle.widl_engine.specs.Frames.{program_of}
use Rattle.widl_engine.proofs.machine.Machine.statements_under.Goals as goal

pub returns-then-not-begin_with_unit : goal.returns-then-not-begin_with_unit
returns-then-not-begin_with_unit c t = c.steps.ensures t

pub returns-in-Ok : goal.returns-in-Ok
returns-in-Ok c t = c.in-Ok.ensures (program_of c.args.tables.now c.args.script.now) c.args.script.now t (c.begin_with_unit.ensures (search rules))
