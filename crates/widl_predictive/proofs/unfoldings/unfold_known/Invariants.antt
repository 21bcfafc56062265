use Rattle.std.proofs.Common.{List, Bool, length}
use Rattle.std.specs.Prelude.{◌||◌}
use Rattle.widl_predictive.specs.Derivation.{Symbol}
use Rattle.widl_predictive.specs.Grammar.{Leveled}
use Rattle.widl_predictive.specs.Machine.{stack_of, topped, Unfolds}
use Rattle.widl_predictive.specs.Unfoldings.{AreUnfoldings}
use Rattle.widl_predictive.proofs.unfoldings.unfold_known.Given as goal

-- what is kept stays, and whatever the rest of the stack comes to, the whole comes to
abbrev pub invariant-loop-top : goal.invariant-loop-top
invariant-loop-top g l = record {
  kept : AreUnfoldings g.R.Rule.grammar g.R.Rule.sets l.known.kept.items;
  rest : (s : List (Symbol g.row.R-Terminal.Denot (Leveled g.row.R.Denot))) (b : Bool) → Unfolds g.R.Rule.grammar g.R.Rule.sets l.ahead (topped l.top (stack_of l.stack.items)) s b → Unfolds g.R.Rule.grammar g.R.Rule.sets l.ahead (stack_of l.fn.stack.items) s (l.deep || b);
}

abbrev pub decreases-loop-top : goal.decreases-loop-top
decreases-loop-top g l = length (topped l.top (stack_of l.stack.items))
