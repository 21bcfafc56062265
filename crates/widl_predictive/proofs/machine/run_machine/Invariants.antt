use Rattle.widl_predictive.specs.Machine.{stack_of}
use Rattle.widl_predictive.specs.Unfoldings.{AreUnfoldings}
use Rattle.widl_predictive.proofs.Places.{Kept}
use Rattle.widl_predictive.proofs.machine.run_machine.Given as goal

abbrev pub invariant-loop-place : goal.invariant-loop-place
invariant-loop-place g l = record {
  stack : Kept g.R.Rule.grammar g.R.Rule.sets g.met.R.Rule.predictive l.fn.start l.tokens l.place (stack_of l.stack.items);
  known : AreUnfoldings g.R.Rule.grammar g.R.Rule.sets l.known.kept.items;
}
