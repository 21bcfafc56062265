use Rattle.std.proofs.Common.{◌≡◌, ◌<◌, ◌≤◌, ℕ, take}
use Rattle.widl_overload.specs.sets.Spans.{spans_hold}
use Rattle.widl_overload.proofs.span.end_of_row.Given as goal

abbrev pub invariant-loop-span : goal.invariant-loop-span
invariant-loop-span l = (k : ℕ) → l.m ≤ k → k < l.end → spans_hold k (take l.span-index l.spans) ≡ spans_hold l.m (take l.span-index l.spans)
