use Rattle.std.proofs.Common.{ℕ}
use Rattle.widl_graph.specs.Search.{Has}
use Rattle.widl_graph.specs.SpanWalks.{IsUnderWay, work_of}
use Rattle.widl_graph.proofs.span_walk.SpanWalk.finish.Given as goal

abbrev pub invariant-loop-last : goal.invariant-loop-last
invariant-loop-last l = record { under_way : IsUnderWay l.parents l.self; kept : (n : ℕ) → Has l.fn.self.order.items n → Has l.self.order.items n }

abbrev pub decreases-loop-last : goal.decreases-loop-last
decreases-loop-last l = work_of l.self
