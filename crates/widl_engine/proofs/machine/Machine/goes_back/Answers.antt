use Rattle.widl_engine.specs.Frames.{program_of}
use Rattle.widl_engine.proofs.Coming.{fits_on}
use Rattle.widl_engine.proofs.Going.{ended_stays, stays_lead}
use Rattle.widl_engine.proofs.machine.Machine.goes_back.Goals as goal

pub asks_or_goes_on-requires-clause-fits : goal.asks_or_goes_on-requires-clause-fits
asks_or_goes_on-requires-clause-fits c = fits_on (program_of c.args.tables.now c.args.script.now) c.args.script.now (ended_stays (program_of c.args.tables.now c.args.script.now) c.args.script.now c.args.store.now c.args.self.now c.args.frame c.args.end c.in-Ok.next (c.in-Ok.ensures c.requires.read)).place c.requires.fits

pub returns-in-Ok : goal.returns-in-Ok
returns-in-Ok c = stays_lead (program_of c.args.tables.now c.args.script.now) c.args.script.now c.args.store.now c.args.store.now c.args.store.now _ _ c.args.self.now c.args.self.now c.asks_or_goes_on.new.self c.asks_or_goes_on.result (ended_stays (program_of c.args.tables.now c.args.script.now) c.args.script.now c.args.store.now c.args.self.now c.args.frame c.args.end c.in-Ok.next (c.in-Ok.ensures c.requires.read)) c.asks_or_goes_on.ensures
