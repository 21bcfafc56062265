use Rattle.std.proofs.Common.{◌≡◌, ℕ, None, length}
use Rattle.widl_graph.specs.Spans.{span_of}
use Rattle.widl_graph.proofs.span_walk.no_spans.Given as goal

abbrev pub invariant-loop-number : goal.invariant-loop-number
invariant-loop-number l = record { none : (n : ℕ) → span_of l.spans.items n ≡ None; count : length l.spans.items ≡ l._number }
