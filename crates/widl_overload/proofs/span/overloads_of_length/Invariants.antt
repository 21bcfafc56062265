use Rattle.std.proofs.Common.{◌≡◌, ◌++◌, drop}
use Rattle.widl_overload.specs.sets.Spans.{spans_hold, true_places}
use Rattle.widl_overload.proofs.span.overloads_of_length.Given as goal

abbrev pub invariant-loop-number : goal.invariant-loop-number
invariant-loop-number l = l.overloads ++ true_places l.number (spans_hold l.m (drop l.number l.spans)) ≡ true_places 0 (spans_hold l.m l.spans)
