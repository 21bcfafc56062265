use Rattle.std.proofs.Common.{◌-◌, arith}
use Rattle.widl_engine.specs.Frames.{program_of}
use Rattle.widl_engine.specs.Output.{output}
use Rattle.widl_engine.specs.Stepping.{bytes_in}
use Rattle.widl_engine.proofs.PaidSteps.{owed_none, owed_some, steps_paid, steps_torn, steps_unpaid}
use Rattle.widl_engine.proofs.machine.Machine.step.Goals as goal

pub returns-in-Ok-None-clause-steps : goal.returns-in-Ok-None-clause-steps
returns-in-Ok-None-clause-steps g c =
    steps_unpaid (program_of c.args.tables.now c.args.script.now) c.args.script.now c.args.store.now c.args.self.now (output (g.K.Sink.held c.args.out.now) c.args.writer.now) c.requires.paid
    (owed_none (program_of c.args.tables.now c.args.script.now) c.args.self.now.due (c.args.self.now.budget - c.args.self.now.taken) c.in-Ok-None.field-0 c.in-Ok-None.field-0-is (c.in-Ok-None.ensures c.args.script.now))

pub returns-in-Err-emit-clause-steps : goal.returns-in-Err-emit-clause-steps
returns-in-Err-emit-clause-steps g c =
    let owes = owed_some (program_of c.args.tables.now c.args.script.now) c.args.self.now.due (c.args.self.now.budget - c.args.self.now.taken) c.in-Ok-Some.field-0 c.in-Ok-Some.owed c.in-Ok-Some.field-0-is (c.in-Ok-Some.ensures c.args.script.now) in
    let within = owes.within in
    let paid = c.requires.paid in
    steps_torn (program_of c.args.tables.now c.args.script.now) c.args.script.now c.args.store.now c.args.store.now c.args.self.now c.args.self.now (output (g.K.Sink.held c.args.out.now) c.args.writer.now) (output (g.K.Sink.held c.emit.new.out) c.emit.new.writer)
    (bytes_in c.in-Ok-Some.owed.line) c.in-Ok-Some.owed.units owes.bytes owes.units (omega (arith, within, paid)) c.in-Err-emit.ensures.err

pub take-requires-clause-units : goal.take-requires-clause-units
take-requires-clause-units g c =
    let owes = owed_some (program_of c.args.tables.now c.args.script.now) c.args.self.now.due (c.args.self.now.budget - c.args.self.now.taken) c.in-Ok-Some.field-0 c.in-Ok-Some.owed c.in-Ok-Some.field-0-is (c.in-Ok-Some.ensures c.args.script.now) in
    owes.units

pub take-requires-clause-pays : goal.take-requires-clause-pays
take-requires-clause-pays g c =
    let owes = owed_some (program_of c.args.tables.now c.args.script.now) c.args.self.now.due (c.args.self.now.budget - c.args.self.now.taken) c.in-Ok-Some.field-0 c.in-Ok-Some.owed c.in-Ok-Some.field-0-is (c.in-Ok-Some.ensures c.args.script.now) in
    let within = owes.within in
    let paid = c.requires.paid in
    omega (arith, within, paid)

pub returns-clause-steps : goal.returns-clause-steps
returns-clause-steps g c =
    let owes = owed_some (program_of c.args.tables.now c.args.script.now) c.args.self.now.due (c.args.self.now.budget - c.args.self.now.taken) c.in-Ok-Some.field-0 c.in-Ok-Some.owed c.in-Ok-Some.field-0-is (c.in-Ok-Some.ensures c.args.script.now) in
    let within = owes.within in
    let paid = c.requires.paid in
    steps_paid (program_of c.args.tables.now c.args.script.now) c.args.script.now c.args.store.now c.take.new.store c.args.self.now c.take.new.self (output (g.K.Sink.held c.args.out.now) c.args.writer.now) (output (g.K.Sink.held c.emit.new.out) c.emit.new.writer)
    c.take.result c.step_of.result (bytes_in c.in-Ok-Some.owed.line) c.in-Ok-Some.owed.units owes.bytes owes.units (omega (arith, within, paid)) c.step_of.ensures c.in-Ok.ensures.ok c.take.ensures
