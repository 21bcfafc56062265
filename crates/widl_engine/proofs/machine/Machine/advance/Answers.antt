use Rattle.std.proofs.Common.{sym}
use Rattle.widl_engine.specs.Frames.{program_of}
use Rattle.widl_engine.specs.Machine.{moves_on}
use Rattle.widl_engine.proofs.Coming.{fits_on}
use Rattle.widl_engine.proofs.Going.{ends_known}
use Rattle.widl_engine.proofs.Leading.{leads_here, then_leads, then_runs, to_known}
use Rattle.widl_engine.proofs.Measuring.{measure_less}
use Rattle.widl_engine.proofs.machine.Machine.advance.Goals as goal

pub moves-init : goal.moves-init
moves-init c = leads_here (program_of c.args.tables.now c.args.script.now) c.args.script.now c.args.store.now (moves_on (program_of c.args.tables.now c.args.script.now) c.args.script.now c.args.first c.args.self.now) c.args.self.now

pub turn-requires-clause-fits : goal.turn-requires-clause-fits
turn-requires-clause-fits c = fits_on (program_of c.args.tables.now c.args.script.now) c.args.script.now c.moves.invariant c.requires.fits

pub moves-smaller : goal.moves-smaller
moves-smaller c = measure_less (program_of c.args.tables.now c.args.script.now) c.args.script.now c.moves.store c.turn.new.store c.moves.self c.turn.new.self c.moves.current c.into_inner-current.result (to_known (program_of c.args.tables.now c.args.script.now) c.args.script.now c.moves.store c.turn.new.store c.moves.current c.in-More.next.value c.into_inner-current.result c.moves.self c.turn.new.self (sym c.into_inner-current.ensures) c.in-More.ensures)

pub moves-preserved : goal.moves-preserved
moves-preserved c = then_leads c.moves.invariant (to_known (program_of c.args.tables.now c.args.script.now) c.args.script.now c.moves.store c.turn.new.store c.moves.current c.in-More.next.value c.into_inner-current.result c.moves.self c.turn.new.self (sym c.into_inner-current.ensures) c.in-More.ensures).place

pub returns-in-Rests : goal.returns-in-Rests
returns-in-Rests c = then_leads c.moves.invariant c.in-Rests.ensures

pub returns-in-Ended : goal.returns-in-Ended
returns-in-Ended c = ends_known (program_of c.args.tables.now c.args.script.now) c.args.script.now c.args.store.now c.turn.new.store (moves_on (program_of c.args.tables.now c.args.script.now) c.args.script.now c.args.first c.args.self.now) c.args.self.now c.turn.new.self c.in-Ended.end.value c.into_inner.result (sym c.into_inner.ensures) (then_runs c.moves.invariant c.in-Ended.ensures)

pub returns-in-Stopped : goal.returns-in-Stopped
returns-in-Stopped c = then_runs c.moves.invariant c.in-Stopped.ensures
