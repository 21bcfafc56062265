use Rattle.std.proofs.Common.{◌≡◌, ◌∙◌, ℕ, ap, arith, if◌then◌else◌, length, map, nat_lt, None, Option, Some}
use Rattle.std.specs.Option.{option_or}
use Rattle.std.proofs.lemmas.List.{length-map}
use Rattle.widl_idl.specs.DefinitionTerms.{op_name_term, sig_term}
use Rattle.widl_script_tree.specs.Tables.{same_callee}
use Rattle.widl_script.specs.CalleeBlocks.{block_for, block_of, target_at}
use Rattle.widl_script.proofs.OverloadTargets.{each_if, next_if, none_if}
use Rattle.widl_script.proofs.callee_blocks.add_operation.Goals as goal

pub overloads-init : goal.overloads-init
overloads-init c = λ other k. none_if (same_callee c.args.callee other) (λ (n : ℕ). block_for c.args.blocks.now c.args.owner.now c.as_slice-name.result.now n) k (target_at c.args.targets.now.entries other k)

pub overloads-preserved : goal.overloads-preserved
overloads-preserved c = λ other k.
    next_if (same_callee c.args.callee other) (λ (n : ℕ). block_for c.args.blocks.now c.args.owner.now c.as_slice-name.result.now n) _ _ _ (target_at c.args.targets.now.entries other k) k c.overloads.overload
    (c.in_ok-add_overload.ensures other k) c.block_named-block.ensures (c.overloads.invariant other k)

pub returns : goal.returns
returns c = λ other k.
    let blocks = c.args.blocks.now in
    let owner = c.args.owner.now in
    let operation = c.args.operation.now in
    let name = c.as_slice-name.result.now in
    let start = target_at c.args.targets.now.entries other k in
    let end : c.overloads.overload ≡ length (map sig_term operation.sigs) = omega (arith, length-map operation.sigs sig_term) in
    let same : (if nat_lt k c.overloads.overload then block_for blocks owner name k else None) ≡ block_of blocks owner (Some (op_name_term operation)) k =
    ap (λ n. if nat_lt k n then block_for blocks owner name k else None) end
    ∙ ap (λ text. if nat_lt k (length (map sig_term operation.sigs)) then block_for blocks owner text k else None) c.as_slice-name.ensures in
    c.overloads.invariant other k ∙ ap (λ (x : Option ℕ). option_or x start) (each_if (same_callee c.args.callee other) (nat_lt k c.overloads.overload) (block_for blocks owner name k) (block_of blocks owner (Some (op_name_term operation)) k) same)
