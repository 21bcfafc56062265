use Rattle.std.proofs.Common.{ap}
use Rattle.widl_value.specs.declared.value.Value.TheVariants.{Undefined}
use Rattle.widl_engine.specs.declared.charges.Charge.TheVariants as charge
use Rattle.widl_engine.specs.declared.charges.Unit as units
use Rattle.widl_engine.specs.declared.charges.Unit.TheVariants as unit
use Rattle.widl_engine.specs.declared.ends.Completion.TheVariants as completions
use Rattle.widl_engine.specs.declared.ends.JobEnd.TheVariants.{Completed as completed}
use Rattle.widl_engine.specs.declared.moves.Move.TheVariants as move
use Rattle.widl_engine.specs.Frames.{program_of}
use Rattle.widl_engine.proofs.Going.{fits_paid_known, paid_known}
use Rattle.widl_engine.proofs.Leading.{continues}
use Rattle.widl_engine.proofs.machine.Machine.unit_leads.Goals as goal

pub gives_value-requires-clause-fits : goal.gives_value-requires-clause-fits
gives_value-requires-clause-fits c = fits_paid_known (program_of c.args.tables.now c.args.script.now) c.args.script.now c.args.store.now (charge.Unit c.args.unit) (charge.Unit unit.Asked) c.args.self.now (ap (λ (u : units.Unit). charge.Unit u) c.in-Asked.is) c.requires.fits

pub returns-in-Asked : goal.returns-in-Asked
returns-in-Asked c = paid_known (program_of c.args.tables.now c.args.script.now) c.args.script.now c.args.store.now c.args.store.now (charge.Unit c.args.unit) (charge.Unit unit.Asked) c.args.self.now c.gives_value.new.self c.gives_value.result (ap (λ (u : units.Unit). charge.Unit u) c.in-Asked.is) (continues (program_of c.args.tables.now c.args.script.now) c.args.script.now c.args.store.now c.args.store.now (move.Gives (completed (completions.Normal Undefined))) c.args.self.now c.gives_value.new.self c.gives_value.result c.gives_value.ensures)

pub returns-in_default : goal.returns-in_default
returns-in_default c = c.leads.ensures (program_of c.args.tables.now c.args.script.now) c.args.store.now c.args.self.now
