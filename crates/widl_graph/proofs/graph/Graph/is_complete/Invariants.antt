use Rattle.std.proofs.Common.{ℕ, ◌<◌, length}
use Rattle.widl_graph.specs.Reaching.{Step}
use Rattle.widl_graph.proofs.graph.Graph.is_complete.Given as goal

abbrev pub invariant-loop-node : goal.invariant-loop-node
invariant-loop-node l = (x y : ℕ) → x < l.node → Step l.self x y → y < length l.self
