use Rattle.std.proofs.Common.{refl, subst, sym}
use Rattle.widl_store.specs.Objects.{StoreState}
use Rattle.widl_runs.specs.Fitting.{KeepsFitting}
use Rattle.widl_runs.specs.Traces.{first_world, whole}
use Rattle.widl_engine.specs.Frames.{program_of}
use Rattle.widl_engine.specs.Output.{output}
use Rattle.widl_engine.proofs.TraceEnds.{run_begun, run_ended, run_stopped, run_torn}
use Rattle.widl_engine.proofs.runs.run.Goals as goal

pub drive-way-requires-clause-fits : goal.drive-way-requires-clause-fits
drive-way-requires-clause-fits g c =
    subst (λ (t : StoreState). KeepsFitting (program_of c.args.tables.now c.args.script.now) (whole (program_of c.args.tables.now c.args.script.now)) (first_world t c.args.budget)) (sym c.requires.store)
    (c.fits.ensures c.args.budget c.requires.budget.1)

pub returns-in-Ended-clause-run : goal.returns-in-Ended-clause-run
returns-in-Ended-clause-run g c =
    run_ended (program_of c.args.tables.now c.args.script.now) c.args.budget c.args.store c.requires.store
    (output (g.K.Sink.held c.args.out.now) c.args.writer.now) (output (g.K.Sink.held c.drive-way.new.out) c.drive-way.new.writer) (output (g.K.Sink.held c.drive-way.new.out) c.drive-way.new.writer)
    c.drive-way.result.0 c.drive-way.result.1 c.drive-way.ensures.run c.in-Ended.end c.ended.result c.in-Ended.is c.ended.ensures

pub returns-in-Stopped-clause-run : goal.returns-in-Stopped-clause-run
returns-in-Stopped-clause-run g c =
    run_stopped (program_of c.args.tables.now c.args.script.now) c.args.budget c.args.store c.requires.store
    (output (g.K.Sink.held c.args.out.now) c.args.writer.now) (output (g.K.Sink.held c.drive-way.new.out) c.drive-way.new.writer) (output (g.K.Sink.held c.say_stop-end.new.out) c.say_stop-end.new.writer)
    c.drive-way.result.0 c.drive-way.result.1 c.drive-way.ensures.run c.in-Stopped.stop c.say_stop-end.result _ c.in-Stopped.is refl refl c.say_stop-end.ensures.said

pub returns-in-WriteFault-clause-run : goal.returns-in-WriteFault-clause-run
returns-in-WriteFault-clause-run g c =
    run_torn (program_of c.args.tables.now c.args.script.now) c.args.budget c.args.store c.requires.store
    (output (g.K.Sink.held c.args.out.now) c.args.writer.now) (output (g.K.Sink.held c.drive-way.new.out) c.drive-way.new.writer) (output (g.K.Sink.held c.drive-way.new.out) c.drive-way.new.writer)
    c.drive-way.result.0 c.drive-way.result.1 c.drive-way.ensures.run c.in-WriteFault.is

pub returns-clause-run : goal.returns-clause-run
returns-clause-run g c =
    run_begun (program_of c.args.tables.now c.args.script.now) c.args.budget c.args.store c.requires.store
    (output (g.K.Sink.held c.args.out.now) c.args.writer.now) (output (g.K.Sink.held c.drive-way.new.out) c.drive-way.new.writer) (output (g.K.Sink.held c.drive-way.new.out) c.drive-way.new.writer)
    c.drive-way.result.0 c.drive-way.result.1 c.drive-way.ensures.run c.in-Memory.is
