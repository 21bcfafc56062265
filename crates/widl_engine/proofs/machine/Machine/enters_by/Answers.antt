use Rattle.std.proofs.Common.{◌∙◌, ap}
use Rattle.widl_engine.specs.declared.charges.AfterLine.TheVariants as line
use Rattle.widl_engine.specs.declared.charges.Charge.TheVariants as charge
use Rattle.widl_engine.specs.declared.due.Due.{Due}
use Rattle.widl_engine.specs.declared.due.Due.TheVariants as due
use Rattle.widl_engine.specs.declared.moves.Move.TheVariants as move
use Rattle.widl_engine.specs.Frames.{program_of}
use Rattle.widl_engine.proofs.Coming.{fits_known}
use Rattle.widl_engine.proofs.Going.{charge_leads, fits_paid}
use Rattle.widl_engine.proofs.Leading.{at_continued, continues}
use Rattle.widl_engine.proofs.machine.Machine.enters_by.Goals as goal

pub enters_function-requires-clause-fits : goal.enters_function-requires-clause-fits
enters_function-requires-clause-fits c = fits_known (program_of c.args.tables.now c.args.script.now) c.args.script.now c.args.store.now c.args.self.now c.enters.result (move.Acts (due.Enter c.in-Enter.number c.in-Enter.this c.in-Enter.args)) (c.in-Acts.is ∙ ap (λ (d : Due). move.Acts d) c.in-Enter.is) (fits_paid (program_of c.args.tables.now c.args.script.now) c.args.script.now c.args.store.now (charge.Line c.args.event (line.Enters c.args.body)) c.enters.result c.args.self.now (c.enters.ensures (program_of c.args.tables.now c.args.script.now) c.args.script.now) c.requires.fits)

pub returns-in-Enter : goal.returns-in-Enter
returns-in-Enter c = charge_leads (program_of c.args.tables.now c.args.script.now) c.args.script.now c.args.store.now c.args.store.now (charge.Line c.args.event (line.Enters c.args.body)) c.enters.result c.args.self.now c.enters_function.new.self c.enters_function.result (c.enters.ensures (program_of c.args.tables.now c.args.script.now) c.args.script.now) (at_continued (program_of c.args.tables.now c.args.script.now) c.args.script.now c.args.store.now c.args.store.now c.enters.result (move.Acts (due.Enter c.in-Enter.number c.in-Enter.this c.in-Enter.args)) c.args.self.now c.enters_function.new.self c.enters_function.result (c.in-Acts.is ∙ ap (λ (d : Due). move.Acts d) c.in-Enter.is) (continues (program_of c.args.tables.now c.args.script.now) c.args.script.now c.args.store.now c.args.store.now (move.Acts (due.Enter c.in-Enter.number c.in-Enter.this c.in-Enter.args)) c.args.self.now c.enters_function.new.self c.enters_function.result c.enters_function.ensures))

pub enters_talk-requires-clause-fits : goal.enters_talk-requires-clause-fits
enters_talk-requires-clause-fits c = fits_known (program_of c.args.tables.now c.args.script.now) c.args.script.now c.args.store.now c.args.self.now c.enters.result (move.Acts (due.EnterBuiltin c.in-EnterBuiltin.f c.in-EnterBuiltin.function c.in-EnterBuiltin.this c.in-EnterBuiltin.args)) (c.in-Acts.is ∙ ap (λ (d : Due). move.Acts d) c.in-EnterBuiltin.is) (fits_paid (program_of c.args.tables.now c.args.script.now) c.args.script.now c.args.store.now (charge.Line c.args.event (line.Enters c.args.body)) c.enters.result c.args.self.now (c.enters.ensures (program_of c.args.tables.now c.args.script.now) c.args.script.now) c.requires.fits)

pub returns-in-EnterBuiltin : goal.returns-in-EnterBuiltin
returns-in-EnterBuiltin c = charge_leads (program_of c.args.tables.now c.args.script.now) c.args.script.now c.args.store.now c.args.store.now (charge.Line c.args.event (line.Enters c.args.body)) c.enters.result c.args.self.now c.enters_talk.new.self c.enters_talk.result (c.enters.ensures (program_of c.args.tables.now c.args.script.now) c.args.script.now) (at_continued (program_of c.args.tables.now c.args.script.now) c.args.script.now c.args.store.now c.args.store.now c.enters.result (move.Acts (due.EnterBuiltin c.in-EnterBuiltin.f c.in-EnterBuiltin.function c.in-EnterBuiltin.this c.in-EnterBuiltin.args)) c.args.self.now c.enters_talk.new.self c.enters_talk.result (c.in-Acts.is ∙ ap (λ (d : Due). move.Acts d) c.in-EnterBuiltin.is) (continues (program_of c.args.tables.now c.args.script.now) c.args.script.now c.args.store.now c.args.store.now (move.Acts (due.EnterBuiltin c.in-EnterBuiltin.f c.in-EnterBuiltin.function c.in-EnterBuiltin.this c.in-EnterBuiltin.args)) c.args.self.now c.enters_talk.new.self c.enters_talk.result c.enters_talk.ensures))

pub returns-in_default-due : goal.returns-in_default-due
returns-in_default-due c = charge_leads (program_of c.args.tables.now c.args.script.now) c.args.script.now c.args.store.now c.args.store.now (charge.Line c.args.event (line.Enters c.args.body)) c.enters.result c.args.self.now c.args.self.now c.more.result (c.enters.ensures (program_of c.args.tables.now c.args.script.now) c.args.script.now) (at_continued (program_of c.args.tables.now c.args.script.now) c.args.script.now c.args.store.now c.args.store.now c.enters.result (move.Acts c.in-Acts.due) c.args.self.now c.args.self.now c.more.result c.in-Acts.is (c.more.ensures (program_of c.args.tables.now c.args.script.now) c.args.script.now c.args.store.now c.args.self.now))

pub returns-in_default : goal.returns-in_default
returns-in_default c = charge_leads (program_of c.args.tables.now c.args.script.now) c.args.script.now c.args.store.now c.args.store.now (charge.Line c.args.event (line.Enters c.args.body)) c.enters.result c.args.self.now c.args.self.now c.more-in_default.result (c.enters.ensures (program_of c.args.tables.now c.args.script.now) c.args.script.now) (c.more-in_default.ensures (program_of c.args.tables.now c.args.script.now) c.args.script.now c.args.store.now c.args.self.now)
