use Rattle.std.proofs.Common.{nat_lt, arith, ap, ◌∙◌}
use Rattle.widl_type_rules.proofs.TouchingSpans.{found_within, none_within, reach_more}
use Rattle.widl_type_rules.proofs.related_interfaces.any_begins_within.Goals as goal

pub returns-then-spans-place : goal.returns-then-spans-place
returns-then-spans-place c = found_within c.args.spans.now c.loop-place.place _ c.loop-place.reach (omega arith) c.loop-place.invariant.reaches c.if-spans-place.true

pub loop-place-preserved : goal.loop-place-preserved
loop-place-preserved c = record {
  none = none_within c.args.spans.now c.loop-place.place _ c.loop-place.reach (omega arith) c.loop-place.invariant.reaches c.loop-place.invariant.none c.if-spans-place.false;
  reaches = λ n. ap (nat_lt n) c.max-reach.ensures ∙ reach_more c.args.spans.now c.loop-place.place _ c.loop-place.reach (omega arith) c.loop-place.invariant.reaches n;
}
