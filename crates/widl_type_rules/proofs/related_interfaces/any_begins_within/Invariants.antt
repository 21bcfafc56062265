use Rattle.std.proofs.Common.{◌≡◌, take, false}
use Rattle.widl_type_rules.specs.IndistinguishablePairs.{any_pair}
use Rattle.widl_type_rules.specs.Lineages.{begins_within}
use Rattle.widl_type_rules.proofs.TouchingSpans.{Reaches}
use Rattle.widl_type_rules.proofs.related_interfaces.any_begins_within.Given as goal

abbrev pub invariant-loop-place : goal.invariant-loop-place
invariant-loop-place l = record {
  none : any_pair begins_within (take l.place l.spans) ≡ false;
  reaches : Reaches l.reach (take l.place l.spans);
}
