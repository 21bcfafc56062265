use Rattle.std.proofs.Common.{◌≡◌, ◌∙◌, ◌≤◌, ◌<◌, ℕ, ap, arith, length, map, nat_eq, nat_lt, Option, option_map, slice_get, Some, subst, sym}
use Rattle.std.specs.Option.{option_or}
use Rattle.std.proofs.lemmas.List.{length-map}
use Rattle.std.proofs.lemmas.Option.{slice_get-map}
use Rattle.widl_idl.specs.Counts.{NumberedOp}
use Rattle.widl_idl.specs.DefinitionTerms.{op_name_term}
use Rattle.widl_idl.specs.declared.operation.OpName.{OpName}
use Rattle.widl_script.specs.CalleeBlocks.{block_of, target_at}
use Rattle.widl_script.specs.Scripts.{callee_of}
use Rattle.widl_script.proofs.OverloadTargets.{all_of, each_if, next_if, none_if, past_operations}
use Rattle.widl_script_rules.proofs.Surrounding.{at_place}
use Rattle.widl_script.proofs.callee_blocks.add_operations.Goals as goal

pub each-init : goal.each-init
each-init c = λ n m k. none_if (nat_eq c.args.number n) (λ (x : ℕ). block_of c.args.blocks.now c.args.owner.now (slice_get (map op_name_term c.args.operations.now) x) k) m (target_at c.args.targets.now.entries (callee_of n m) k)

pub add_operation-requires : goal.add_operation-requires
add_operation-requires c =
    let numbered : NumberedOp c.index-operations-place.result = subst NumberedOp (sym c.index-operations-place.is) (c.requires.each c.each.place c.index-operations-place.result c.each-test.true) in
    numbered.few

pub each-preserved : goal.each-preserved
each-preserved c = λ n m k.
    let all = c.args.operations.now in
    let place = c.each.place in
    let operation = c.index-operations-place.result in
    let terms = map op_name_term all in
    let f = λ (x : ℕ). block_of c.args.blocks.now c.args.owner.now (slice_get terms x) k in
    let is : slice_get terms place ≡ Some (op_name_term operation) = slice_get-map op_name_term all place ∙ ap (option_map op_name_term) (at_place all place operation c.each-test.true c.index-operations-place.is) in
    next_if (nat_eq c.args.number n) f _ _ _ (target_at c.args.targets.now.entries (callee_of n m) k) m place
    (c.in_ok-add_operation.ensures (callee_of n m) k) (ap (λ x. block_of c.args.blocks.now c.args.owner.now x k) (sym is)) (c.each.invariant n m k)

pub returns : goal.returns
returns c = λ n m k.
    let all = c.args.operations.now in
    let terms = map op_name_term all in
    let f = λ (x : ℕ). block_of c.args.blocks.now c.args.owner.now (slice_get terms x) k in
    let start = target_at c.args.targets.now.entries (callee_of n m) k in
    let long : length terms ≤ c.each.place = omega (arith, length-map all op_name_term, c.each-test.false, c.each.auto.place-end) in
    c.each.invariant n m k
    ∙ ap (λ (x : Option ℕ). option_or x start) (each_if (nat_eq c.args.number n) (nat_lt m c.each.place) (f m) (f m) (all_of f m c.each.place (λ (h : c.each.place ≤ m). past_operations c.args.blocks.now c.args.owner.now terms m k (omega (arith, long, h)))))
