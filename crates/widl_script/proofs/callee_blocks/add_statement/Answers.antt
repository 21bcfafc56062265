use Rattle.std.proofs.Common.{◌≡◌, ◌∙◌, ap, slice_get, Some, sym}
use Rattle.std.specs.Option.{option_copied, option_or}
use Rattle.widl_script_tree.specs.Tables.{Tables, statement_tree}
use Rattle.widl_script_rules.specs.OperationTargets.{are_names, names}
use Rattle.widl_script.specs.CalleeBlocks.{block_for, lines_asked, lines_for, lines_if}
use Rattle.widl_script_rules.specs.Targets.{is_target_of}
use Rattle.widl_script.proofs.FirstBlocks.{block_put}
use Rattle.widl_script.proofs.callee_blocks.add_statement.Goals as goal

pub returns : goal.returns
returns c = λ space o k.
    let t : Tables = c.args.tables.now in
    let old = c.args.blocks.now in
    let new = c.add_block.new.blocks in
    let asked = is_target_of space o k in
    let number = c.in-Some.number in
    let block = c.in-Some-steps.block.now in
    let target = c.in-Some-operation_target.target in
    let found : slice_get t.blocks number ≡ Some block = sym c.steps.ensures ∙ ap (λ b. option_copied b) c.in-Some-steps.is in
    let same : asked block.target ≡ names target space.name o.name k = c.operation_target.ensures.names space o k ∙ ap (λ r. are_names r space.name o.name k) c.in-Some-operation_target.is in
    let tree : lines_asked asked (statement_tree t c.args.place) ≡ lines_if t asked (Some number) = c.block_at.ensures asked ∙ ap (lines_if t asked) c.in-Some.is in
    block_put t asked number block (block_for old space.name o.name k) (block_for new space.name o.name k) (names target space.name o.name k) found same (c.in_ok-add_block.ensures space.name o.name k)
    ∙ ap (option_or (lines_for t old space o k)) (sym tree)
