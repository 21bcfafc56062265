use Rattle.std.proofs.Common.{refl, sym}
use Rattle.widl_engine.specs.declared.charges.Charge.TheVariants as charge
use Rattle.widl_engine.specs.declared.charges.Unit.TheVariants as unit
use Rattle.widl_engine.specs.Frames.{program_of}
use Rattle.widl_engine.proofs.Coming.{fits_on}
use Rattle.widl_engine.proofs.Going.{fits_paid_known, paid_apart, paid_known, stays_lead}
use Rattle.widl_engine.proofs.machine.Machine.paid.Goals as goal

pub performs-requires-clause-fits : goal.performs-requires-clause-fits
performs-requires-clause-fits c = fits_paid_known (program_of c.args.tables.now c.args.script.now) c.args.script.now c.args.store.now c.args.self.now.due (charge.Unit (unit.Statement c.in-Some.place)) c.args.self.now c.in-Some.ensures c.requires.fits

pub returns-in-Some : goal.returns-in-Some
returns-in-Some c = paid_known (program_of c.args.tables.now c.args.script.now) c.args.script.now c.args.store.now c.args.store.now c.args.self.now.due (charge.Unit (unit.Statement c.in-Some.place)) c.args.self.now c.performs.new.self c.performs.result c.in-Some.ensures c.performs.ensures

pub follows-requires-clause-fits : goal.follows-requires-clause-fits
follows-requires-clause-fits c = fits_on (program_of c.args.tables.now c.args.script.now) c.args.script.now (paid_apart (program_of c.args.tables.now c.args.script.now) c.args.script.now c.args.store.now c.replace-due.result c.args.self.now _ refl refl refl refl).place (fits_paid_known (program_of c.args.tables.now c.args.script.now) c.args.script.now c.args.store.now c.args.self.now.due c.replace-due.result c.args.self.now (sym c.replace-due.ensures.value) c.requires.fits)

pub returns-in-None : goal.returns-in-None
returns-in-None c = paid_known (program_of c.args.tables.now c.args.script.now) c.args.script.now c.args.store.now c.follows.new.store c.args.self.now.due c.replace-due.result c.args.self.now c.follows.new.self c.follows.result (sym c.replace-due.ensures.value) (stays_lead (program_of c.args.tables.now c.args.script.now) c.args.script.now c.args.store.now c.args.store.now c.follows.new.store _ _ c.args.self.now _ c.follows.new.self c.follows.result (paid_apart (program_of c.args.tables.now c.args.script.now) c.args.script.now c.args.store.now c.replace-due.result c.args.self.now _ refl refl refl refl) c.follows.ensures)
