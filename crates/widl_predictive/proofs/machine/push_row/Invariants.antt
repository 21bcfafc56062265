use Rattle.std.proofs.Common.{◌≡◌, ◌≤◌, ◌+◌, ◌++◌, length, drop}
use Rattle.std.specs.Prelude.{vec_len, vec_capacity}
use Rattle.widl_predictive.specs.Grammar.{row_at}
use Rattle.widl_predictive.specs.Machine.{stack_of}
use Rattle.widl_predictive.proofs.machine.push_row.Given as goal

abbrev pub invariant-loop-left : goal.invariant-loop-left
invariant-loop-left g l = record {
  in_range : l.left ≤ length l.row;
  room : vec_len l.stack + l.left ≤ vec_capacity l.stack;
  pushed : stack_of l.stack.items ≡ row_at g.R.Rule.grammar l.level (drop l.left l.row) ++ stack_of l.fn.stack.items;
}

abbrev pub decreases-loop-left : goal.decreases-loop-left
decreases-loop-left g l = l.left
