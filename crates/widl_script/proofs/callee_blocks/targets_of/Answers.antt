use Rattle.std.proofs.Common.{◌≡◌, ◌∙◌, ◌≤◌, ℕ, ap, arith, if◌then◌else◌, length, map, nat_lt, None, option_map, slice_get, Some, subst, sym, true}
use Rattle.std.proofs.lemmas.List.{length-map}
use Rattle.std.proofs.lemmas.Option.{slice_get-map}
use Rattle.widl_idl.specs.Counts.{IsNumbered, NumberedNamespace, NumberedOp}
use Rattle.widl_idl.specs.DefinitionTerms.{op_name_term, space_term}
use Rattle.widl_script.specs.CalleeBlocks.{block_in, block_of, target_at}
use Rattle.widl_script.specs.Scripts.{callee_of}
use Rattle.widl_script.proofs.FirstBlocks.{or_nothing}
use Rattle.widl_script.proofs.OverloadTargets.{all_of, next_if, none_if, past_spaces}
use Rattle.widl_script_rules.proofs.Surrounding.{at_place}
use Rattle.widl_script.proofs.callee_blocks.targets_of.Goals as goal

pub spaces-init : goal.spaces-init
spaces-init c = λ n m k. ap (λ es. target_at es (callee_of n m) k) c.new-targets.ensures.empty ∙ none_if true (λ (x : ℕ). block_in c.args.blocks.now (slice_get (map space_term c.args.spaces.now) x) m k) n None

pub add_operations-requires : goal.add_operations-requires
add_operations-requires c =
    let space = c.index-spaces-number.result in
    let numbered : NumberedNamespace space = subst NumberedNamespace (sym c.index-spaces-number.is) (c.requires.each c.spaces.number space c.spaces-test.true) in
    subst (λ operations. IsNumbered NumberedOp operations) (sym c.as_slice-operations.ensures) numbered.ops

pub spaces-preserved : goal.spaces-preserved
spaces-preserved c = λ n m k.
    let all = c.args.spaces.now in
    let number = c.spaces.number in
    let space = c.index-spaces-number.result in
    let terms = map space_term all in
    let blocks = c.args.blocks.now in
    let is : slice_get terms number ≡ Some (space_term space) = slice_get-map space_term all number ∙ ap (option_map space_term) (at_place all number space c.spaces-test.true c.index-spaces-number.is) in
    next_if true (λ (x : ℕ). block_in blocks (slice_get terms x) m k) _ _ _ None n number
    (c.in_ok-add_operations.ensures n m k)
    (ap (λ text. block_of blocks text (slice_get (map op_name_term c.as_slice-operations.result.now) m) k) c.as_slice-owner.ensures
    ∙ ap (λ operations. block_of blocks space.name (slice_get (map op_name_term operations) m) k) c.as_slice-operations.ensures
    ∙ ap (λ x. block_in blocks x m k) (sym is))
    (c.spaces.invariant n m k)

pub returns : goal.returns
returns c = λ n m k.
    let all = c.args.spaces.now in
    let terms = map space_term all in
    let f = λ (x : ℕ). block_in c.args.blocks.now (slice_get terms x) m k in
    let long : length terms ≤ c.spaces.number = omega (arith, length-map all space_term, c.spaces-test.false, c.spaces.auto.number-end) in
    c.spaces.invariant n m k ∙ or_nothing (if nat_lt n c.spaces.number then f n else None)
    ∙ all_of f n c.spaces.number (λ (h : c.spaces.number ≤ n). past_spaces c.args.blocks.now terms n m k (omega (arith, long, h)))
