use Rattle.widl_engine.specs.declared.charges.Charge.TheVariants as charge
use Rattle.widl_engine.specs.Frames.{program_of}
use Rattle.widl_engine.proofs.Going.{fits_paid_known, paid_known}
use Rattle.widl_engine.proofs.machine.Machine.follows.Goals as goal

pub unit_leads-requires-clause-fits : goal.unit_leads-requires-clause-fits
unit_leads-requires-clause-fits c = fits_paid_known (program_of c.args.tables.now c.args.script.now) c.args.script.now c.args.store.now c.args.charge (charge.Unit c.in-Unit.unit) c.args.self.now c.in-Unit.is c.requires.fits

pub returns-in-Unit : goal.returns-in-Unit
returns-in-Unit c = paid_known (program_of c.args.tables.now c.args.script.now) c.args.script.now c.args.store.now c.args.store.now c.args.charge (charge.Unit c.in-Unit.unit) c.args.self.now c.unit_leads.new.self c.unit_leads.result c.in-Unit.is c.unit_leads.ensures

pub line_leads-requires-clause-fits : goal.line_leads-requires-clause-fits
line_leads-requires-clause-fits c = fits_paid_known (program_of c.args.tables.now c.args.script.now) c.args.script.now c.args.store.now c.args.charge (charge.Line c.in-Line.event c.in-Line.then) c.args.self.now c.in-Line.is c.requires.fits

pub returns-in-Line : goal.returns-in-Line
returns-in-Line c = paid_known (program_of c.args.tables.now c.args.script.now) c.args.script.now c.args.store.now c.line_leads.new.store c.args.charge (charge.Line c.in-Line.event c.in-Line.then) c.args.self.now c.line_leads.new.self c.line_leads.result c.in-Line.is c.line_leads.ensures
