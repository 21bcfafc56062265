use Rattle.std.proofs.Common.{length, arith, refl, sym, ap, ◌∙◌}
use Rattle.std.proofs.lemmas.List.{length-map, length-replicate}
use Rattle.widl_idl.specs.PlainTrees.{definition_of, plain_definitions}
use Rattle.widl_names.proofs.NameMeanings.{all_plain}
use Rattle.widl_merge.proofs.SteadyDepths.{steady_start, capped_start, table_next, all_told}
use Rattle.widl_merge.proofs.nesting.definition_depths.Goals as goal

pub loop-number-init : goal.loop-number-init
loop-number-init c = record {
  size = ap length c.in_ok-depths.ensures ∙ length-replicate _ _ ∙ sym (length-map c.all.result.now (λ d. definition_of d.now)) ∙ ap length (all_plain _ _ c.all.ensures);
  small = capped_start _ c.in_ok-depths.depths.items c.in_ok-depths.ensures;
  known = steady_start (plain_definitions c.args.meanings.now) c.args.walk.now.order.items c.in_ok-depths.depths.items;
}

pub loop-number-preserved : goal.loop-number-preserved
loop-number-preserved c =
    let next = table_next (plain_definitions c.args.meanings.now) c.args.walk.now c.loop-number.number-index c.loop-number.depths.items c.requires
    c.as_slice-number-items.result.now c.as_slice-in-loop-number.result.now c.as_slice.result.now
    c.as_slice-number-items.ensures.value c.as_slice-in-loop-number.ensures.value c.as_slice.ensures.value
    c.loop-number-test.true c.loop-number.invariant.size c.loop-number.invariant.small c.loop-number.invariant.known
    c.walked_depth-depth.result c.walked_depth-depth.ensures _ refl in
    record { size = next.0; small = next.1; known = next.2 }

pub returns-clause-tells : goal.returns-clause-tells
returns-clause-tells c =
    let size = ap length c.as_slice-number-items.ensures.value in
    all_told (plain_definitions c.args.meanings.now) c.args.walk.now.order.items c.loop-number.number-index c.loop-number.depths.items c.requires.order (omega arith) (omega arith) c.loop-number.invariant.small c.loop-number.invariant.known
