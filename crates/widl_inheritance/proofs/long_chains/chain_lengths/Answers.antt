use Rattle.std.proofs.Common.{◌≡◌, ◌∙◌, Some, ap, arith, get_or, length, map, refl, slice_get, sym}
use Rattle.std.proofs.lemmas.Option.{slice_get-get_or}
use Rattle.widl_idl.specs.DefinitionTerms.{dict_term}
use Rattle.widl_inheritance.specs.ChainLengths.{greatest_length}
use Rattle.std.proofs.lemmas.List.{length-map, length-replicate}
use Rattle.widl_inheritance.specs.ChainLengths.{node_length}
use Rattle.widl_inheritance.proofs.LongestChains.{all_measured, lengths_next, measured_start}
use Rattle.widl_inheritance.proofs.long_chains.chain_lengths.Goals as goal

pub loop-node-init : goal.loop-node-init
loop-node-init c = record {
  size = ap length c.in_ok-lengths.ensures ∙ length-replicate _ _ ∙ c.len.ensures;
  known = measured_start (map dict_term c.args.dicts.now) c.args.holdings.now.walk.order.items c.in_ok-lengths.lengths.items;
}

pub loop-node-preserved : goal.loop-node-preserved
loop-node-preserved c =
    let order = c.as_slice-order.result.now in
    let x = get_or order c.loop-node.node-index 0 in
    let here : slice_get c.args.holdings.now.walk.order.items c.loop-node.node-index ≡ Some x = ap (λ l. slice_get l c.loop-node.node-index) (sym c.as_slice-order.ensures.value) ∙ slice_get-get_or order c.loop-node.node-index 0 c.loop-node-test.true in
    let next = lengths_next (map dict_term c.args.dicts.now) c.args.holdings.now c.requires.holdings c.requires.finite c.loop-node.node-index x c.loop-node.lengths.items _ c.successors-successors.result.now c.node_length.result c.greatest_length-after.result
    here c.loop-node.invariant.known c.loop-node.invariant.size c.successors-successors.ensures
    (c.greatest_length-after.ensures ∙ ap (λ l. greatest_length l c.successors-successors.result.now) c.as_slice.ensures.value)
    (c.node_length.ensures ∙ ap (λ k. node_length k x c.greatest_length-after.result) (sym (length-map c.args.dicts.now dict_term)))
    refl in
    record { size = next.0; known = next.1 }

pub returns : goal.returns
returns c =
    let same = ap length c.as_slice-order.ensures.value in
    all_measured (map dict_term c.args.dicts.now) c.args.holdings.now c.requires.holdings c.requires.finite c.loop-node.node-index c.loop-node.lengths.items (omega arith) c.loop-node.invariant.size c.loop-node.invariant.known
