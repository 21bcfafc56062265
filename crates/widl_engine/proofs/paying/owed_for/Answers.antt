use Rattle.std.proofs.Common.{subst, sym}
use Rattle.widl_engine.specs.declared.charges.Charge.{Charge}
use Rattle.widl_engine.specs.Frames.{program_of}
use Rattle.widl_engine.specs.Stepping.{IsOwed}
use Rattle.widl_engine.proofs.paying.owed_for.Goals as goal

pub returns-in-Unit : goal.returns-in-Unit
returns-in-Unit c s = subst (λ (x : Charge). IsOwed (program_of c.args.tables.now s) x c.args.left c.unit_owed.result) (sym c.in-Unit.is) (c.unit_owed.ensures (program_of c.args.tables.now s) c.in-Unit.field-0)
