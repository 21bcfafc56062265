-- For proofs alone. The walk that finds the spans of the nodes of a forest, between its steps.
use Rattle.std.specs.Prelude.{ℕ, ◌+◌, ◌*◌, List, length, Option}
use Rattle.std.specs.List.{sum_by}
use Rattle.widl_graph.specs.Children.{AreLeft}
use Rattle.widl_graph.specs.Spans.{IsWalk}
use Rattle.widl_graph.specs.declared.span_walk.SpanWalk.{SpanWalk}

-- the spans are those of the nodes that were visited, and the children of these were visited or are left
pub record IsUnderWay (parents : List (Option ℕ)) (walk : SpanWalk) : Type 0 where
  pub visits : IsWalk parents walk.spans.items walk.order.items walk.path.items
  pub left : AreLeft parents walk.order.items walk.path.items walk.children

-- how far a walk is from its end
abbrev pub work_of : SpanWalk → ℕ
work_of walk = 2 * sum_by length walk.children + length walk.path.items
