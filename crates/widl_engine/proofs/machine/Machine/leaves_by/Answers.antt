use Rattle.std.proofs.Common.{◌∙◌, ap}
use Rattle.widl_engine.specs.declared.charges.AfterLine.TheVariants as line
use Rattle.widl_engine.specs.declared.charges.Charge.TheVariants as charge
use Rattle.widl_engine.specs.declared.due.Due.{Due}
use Rattle.widl_engine.specs.declared.due.Due.TheVariants as due
use Rattle.widl_engine.specs.declared.moves.Move.TheVariants as move
use Rattle.widl_engine.specs.Frames.{program_of}
use Rattle.widl_engine.proofs.Coming.{fits_known}
use Rattle.widl_engine.proofs.Going.{charge_leads, fits_paid}
use Rattle.widl_engine.proofs.Leading.{at_continued, continues}
use Rattle.widl_engine.proofs.machine.Machine.leaves_by.Goals as goal

pub leaves_call-requires-clause-fits : goal.leaves_call-requires-clause-fits
leaves_call-requires-clause-fits c = fits_known (program_of c.args.tables.now c.args.script.now) c.args.script.now c.args.store.now c.args.self.now c.leaves.result (move.Acts (due.Leave c.in-Leave.completion)) (c.in-Acts.is ∙ ap (λ (d : Due). move.Acts d) c.in-Leave.is) (fits_paid (program_of c.args.tables.now c.args.script.now) c.args.script.now c.args.store.now (charge.Line c.args.event line.Leaves) c.leaves.result c.args.self.now (c.leaves.ensures (program_of c.args.tables.now c.args.script.now) c.args.script.now) c.requires.fits)

pub returns-in-Leave : goal.returns-in-Leave
returns-in-Leave c = charge_leads (program_of c.args.tables.now c.args.script.now) c.args.script.now c.args.store.now c.args.store.now (charge.Line c.args.event line.Leaves) c.leaves.result c.args.self.now c.leaves_call.new.self c.leaves_call.result (c.leaves.ensures (program_of c.args.tables.now c.args.script.now) c.args.script.now) (at_continued (program_of c.args.tables.now c.args.script.now) c.args.script.now c.args.store.now c.args.store.now c.leaves.result (move.Acts (due.Leave c.in-Leave.completion)) c.args.self.now c.leaves_call.new.self c.leaves_call.result (c.in-Acts.is ∙ ap (λ (d : Due). move.Acts d) c.in-Leave.is) (continues (program_of c.args.tables.now c.args.script.now) c.args.script.now c.args.store.now c.args.store.now (move.Acts (due.Leave c.in-Leave.completion)) c.args.self.now c.leaves_call.new.self c.leaves_call.result c.leaves_call.ensures))

pub returns-in_default-due : goal.returns-in_default-due
returns-in_default-due c = charge_leads (program_of c.args.tables.now c.args.script.now) c.args.script.now c.args.store.now c.args.store.now (charge.Line c.args.event line.Leaves) c.leaves.result c.args.self.now c.args.self.now c.more.result (c.leaves.ensures (program_of c.args.tables.now c.args.script.now) c.args.script.now) (at_continued (program_of c.args.tables.now c.args.script.now) c.args.script.now c.args.store.now c.args.store.now c.leaves.result (move.Acts c.in-Acts.due) c.args.self.now c.args.self.now c.more.result c.in-Acts.is (c.more.ensures (program_of c.args.tables.now c.args.script.now) c.args.script.now c.args.store.now c.args.self.now))

pub returns-in_default : goal.returns-in_default
returns-in_default c = charge_leads (program_of c.args.tables.now c.args.script.now) c.args.script.now c.args.store.now c.args.store.now (charge.Line c.args.event line.Leaves) c.leaves.result c.args.self.now c.args.self.now c.more-in_default.result (c.leaves.ensures (program_of c.args.tables.now c.args.script.now) c.args.script.now) (c.more-in_default.ensures (program_of c.args.tables.now c.args.script.now) c.args.script.now c.args.store.now c.args.self.now)
