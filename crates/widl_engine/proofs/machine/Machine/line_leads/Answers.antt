use Rattle.std.proofs.Common.{ap}
use Rattle.widl_value.specs.declared.value.Value.TheVariants.{Undefined}
use Rattle.widl_engine.specs.declared.charges.AfterLine.{AfterLine}
use Rattle.widl_engine.specs.declared.charges.AfterLine.TheVariants as line
use Rattle.widl_engine.specs.declared.charges.Charge.TheVariants as charge
use Rattle.widl_engine.specs.declared.ends.Completion.TheVariants as completions
use Rattle.widl_engine.specs.declared.ends.JobEnd.TheVariants.{Completed as completed}
use Rattle.widl_engine.specs.declared.moves.Move.TheVariants as move
use Rattle.widl_engine.specs.Frames.{program_of}
use Rattle.widl_engine.proofs.Going.{fits_paid_known, paid_known}
use Rattle.widl_engine.proofs.Leading.{continues}
use Rattle.widl_engine.proofs.machine.Machine.line_leads.Goals as goal

pub enters_by-requires-clause-fits : goal.enters_by-requires-clause-fits
enters_by-requires-clause-fits c = fits_paid_known (program_of c.args.tables.now c.args.script.now) c.args.script.now c.args.store.now (charge.Line c.args.event c.args.then) (charge.Line c.args.event (line.Enters c.in-Enters.body)) c.args.self.now (ap (λ (a : AfterLine). charge.Line c.args.event a) c.in-Enters.is) c.requires.fits

pub returns-in-Enters : goal.returns-in-Enters
returns-in-Enters c = paid_known (program_of c.args.tables.now c.args.script.now) c.args.script.now c.args.store.now c.enters_by.new.store (charge.Line c.args.event c.args.then) (charge.Line c.args.event (line.Enters c.in-Enters.body)) c.args.self.now c.enters_by.new.self c.enters_by.result (ap (λ (a : AfterLine). charge.Line c.args.event a) c.in-Enters.is) c.enters_by.ensures

pub leaves_by-requires-clause-fits : goal.leaves_by-requires-clause-fits
leaves_by-requires-clause-fits c = fits_paid_known (program_of c.args.tables.now c.args.script.now) c.args.script.now c.args.store.now (charge.Line c.args.event c.args.then) (charge.Line c.args.event line.Leaves) c.args.self.now (ap (λ (a : AfterLine). charge.Line c.args.event a) c.in-Leaves.is) c.requires.fits

pub returns-in-Leaves : goal.returns-in-Leaves
returns-in-Leaves c = paid_known (program_of c.args.tables.now c.args.script.now) c.args.script.now c.args.store.now c.leaves_by.new.store (charge.Line c.args.event c.args.then) (charge.Line c.args.event line.Leaves) c.args.self.now c.leaves_by.new.self c.leaves_by.result (ap (λ (a : AfterLine). charge.Line c.args.event a) c.in-Leaves.is) c.leaves_by.ensures

pub returns-in_default : goal.returns-in_default
returns-in_default c = c.leads.ensures (program_of c.args.tables.now c.args.script.now) c.args.store.now c.args.self.now

pub gives_value-requires-clause-fits : goal.gives_value-requires-clause-fits
gives_value-requires-clause-fits c = fits_paid_known (program_of c.args.tables.now c.args.script.now) c.args.script.now c.args.store.now (charge.Line c.args.event c.args.then) (charge.Line c.args.event line.Shown) c.args.self.now (ap (λ (a : AfterLine). charge.Line c.args.event a) c.in-Shown.is) c.requires.fits

pub returns-in-Shown : goal.returns-in-Shown
returns-in-Shown c = paid_known (program_of c.args.tables.now c.args.script.now) c.args.script.now c.args.store.now c.args.store.now (charge.Line c.args.event c.args.then) (charge.Line c.args.event line.Shown) c.args.self.now c.gives_value.new.self c.gives_value.result (ap (λ (a : AfterLine). charge.Line c.args.event a) c.in-Shown.is) (continues (program_of c.args.tables.now c.args.script.now) c.args.script.now c.args.store.now c.args.store.now (move.Gives (completed (completions.Normal Undefined))) c.args.self.now c.gives_value.new.self c.gives_value.result c.gives_value.ensures)
