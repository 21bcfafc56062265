use Rattle.std.proofs.Common.{refl, ◌∙◌}
use Rattle.widl_engine.specs.Frames.{program_of}
use Rattle.widl_engine.specs.Output.{output}
use Rattle.widl_engine.proofs.WholeRuns.{first_fits, first_stands, first_finished, stands_fits, goes_on, unpaid, over}
use Rattle.widl_engine.proofs.runs.take_charges.Goals as goal

pub advance-requires-clause-fits : goal.advance-requires-clause-fits
advance-requires-clause-fits g c =
    first_fits (program_of c.args.tables.now c.args.script.now) c.args.script.now c.args.store.now c.args.machine.now c.first_move.result c.args.budget
    (c.first_move.ensures c.args.tables.now) c.requires.fresh c.requires.fits

pub returns-in-Ended-clause-run : goal.returns-in-Ended-clause-run
returns-in-Ended-clause-run g c =
    first_finished (program_of c.args.tables.now c.args.script.now) c.args.script.now c.args.store.now c.advance.new.store c.args.machine.now c.advance.new.self c.first_move.result c.args.budget
    (output (g.K.Sink.held c.args.out.now) c.args.writer.now) _ _
    (c.first_move.ensures c.args.tables.now) c.requires.fresh refl refl c.in-Ended.ensures

pub returns-in-Stopped-clause-run : goal.returns-in-Stopped-clause-run
returns-in-Stopped-clause-run g c =
    first_finished (program_of c.args.tables.now c.args.script.now) c.args.script.now c.args.store.now c.advance.new.store c.args.machine.now c.advance.new.self c.first_move.result c.args.budget
    (output (g.K.Sink.held c.args.out.now) c.args.writer.now) _ _
    (c.first_move.ensures c.args.tables.now) c.requires.fresh refl refl c.in-Stopped.ensures

pub charges-init : goal.charges-init
charges-init g c = record {
  stands =
      first_stands (program_of c.args.tables.now c.args.script.now) c.args.script.now c.args.store.now c.advance.new.store c.args.machine.now c.advance.new.self c.first_move.result c.args.budget
      (output (g.K.Sink.held c.args.out.now) c.args.writer.now)
      (c.first_move.ensures c.args.tables.now) c.requires.fresh c.requires.fits c.in-Going.ensures;
  same = refl;
}

pub step-requires-clause-fits : goal.step-requires-clause-fits
step-requires-clause-fits g c = stands_fits (program_of c.args.tables.now c.args.script.now) c.args.script.now c.charges.invariant.stands

pub charges-preserved : goal.charges-preserved
charges-preserved g c = record {
  stands =
      goes_on (program_of c.args.tables.now c.args.script.now) c.args.script.now c.args.store.now c.charges.store c.step.new.store c.charges.machine c.step.new.self c.args.budget c.charges.events c.count_of_lines-line.result
      (output (g.K.Sink.held c.args.out.now) c.args.writer.now) (output (g.K.Sink.held c.charges.out) c.charges.writer) (output (g.K.Sink.held c.step.new.out) c.step.new.writer)
      c.charges.invariant.stands c.in-Going-step.ensures.steps c.count_of_lines-line.ensures;
  same = c.in-Going-step.ensures.faults ∙ c.charges.invariant.same;
}

pub returns-in-Unpaid-clause-run : goal.returns-in-Unpaid-clause-run
returns-in-Unpaid-clause-run g c =
    unpaid (program_of c.args.tables.now c.args.script.now) c.args.script.now c.args.store.now c.charges.store c.charges.machine c.step.new.self c.args.budget c.charges.events
    (output (g.K.Sink.held c.args.out.now) c.args.writer.now) (output (g.K.Sink.held c.charges.out) c.charges.writer) (output (g.K.Sink.held c.step.new.out) c.step.new.writer) _
    c.charges.invariant.stands c.in-Unpaid.ensures.steps refl refl

pub returns-in-Over-clause-run : goal.returns-in-Over-clause-run
returns-in-Over-clause-run g c =
    over (program_of c.args.tables.now c.args.script.now) c.args.script.now c.args.store.now c.charges.store c.step.new.store c.charges.machine c.step.new.self c.args.budget c.charges.events c.count_of_lines-line.result
    (output (g.K.Sink.held c.args.out.now) c.args.writer.now) (output (g.K.Sink.held c.charges.out) c.charges.writer) (output (g.K.Sink.held c.step.new.out) c.step.new.writer) c.in-Over.way _
    c.charges.invariant.stands c.in-Over.ensures.steps c.count_of_lines-line.ensures refl refl
