use Rattle.std.proofs.Common.{List, Bool}
use Rattle.std.specs.Prelude.{◌||◌}
use Rattle.widl_predictive.specs.Derivation.{Symbol}
use Rattle.widl_predictive.specs.Grammar.{Leveled}
use Rattle.widl_predictive.specs.Lookahead.{stack_cost}
use Rattle.widl_predictive.specs.Machine.{stack_of, topped, Unfolds}
use Rattle.widl_predictive.proofs.machine.unfold.Given as goal

-- whatever the rest comes to, the whole comes to
abbrev pub invariant-loop-top : goal.invariant-loop-top
invariant-loop-top g l = (s : List (Symbol g.row.R-Terminal.Denot (Leveled g.row.R.Denot))) (b : Bool) → Unfolds g.R.Rule.grammar g.R.Rule.sets l.ahead (topped l.top (stack_of l.stack.items)) s b → Unfolds g.R.Rule.grammar g.R.Rule.sets l.ahead (stack_of l.fn.stack.items) s (l.deep || b)

abbrev pub decreases-loop-top : goal.decreases-loop-top
decreases-loop-top g l = stack_cost g.R.Rule.grammar g.R.Rule.sets (topped l.top (stack_of l.stack.items))
