use Rattle.std.proofs.Common.{arith, ap, ◌∙◌}
use Rattle.widl_type_rules.specs.IndistinguishablePairs.{any_pair, clash}
use Rattle.widl_type_rules.proofs.IndistinguishableKinds.{found_clash, kinds_of, no_clash, seen_more}
use Rattle.widl_type_rules.proofs.indistinguishable_members.any_clash.Goals as goal

pub returns-then-meets : goal.returns-then-meets
returns-then-meets c = found_clash c.as_slice-t-items.result.now c.loop-t.t-index c.t-item.result c.loop-t.seen c.category_of-kind.result c.meets.result (omega arith) c.t-item.is c.category_of-kind.ensures c.meets.ensures c.loop-t.invariant.tells c.if-meets.true ∙ ap (λ ts. any_pair clash (kinds_of ts)) c.as_slice-t-items.ensures

pub loop-t-preserved : goal.loop-t-preserved
loop-t-preserved c = record {
  none = no_clash c.as_slice-t-items.result.now c.loop-t.t-index c.t-item.result c.loop-t.seen c.category_of-kind.result c.meets.result (omega arith) c.t-item.is c.category_of-kind.ensures c.meets.ensures c.loop-t.invariant.tells c.loop-t.invariant.none c.if-meets.false;
  tells = seen_more c.as_slice-t-items.result.now c.loop-t.t-index c.t-item.result c.loop-t.seen c.category_of-kind.result c.meets.result (omega arith) c.t-item.is c.category_of-kind.ensures c.meets.ensures c.loop-t.invariant.tells c.with-seen.result c.with-seen.ensures;
}
