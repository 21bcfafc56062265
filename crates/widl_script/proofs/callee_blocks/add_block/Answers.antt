use Rattle.std.proofs.Common.{◌≡◌, ◌∙◌, ap, false, is_some, sym, true}
use Rattle.widl_script.specs.CalleeBlocks.{block_for}
use Rattle.widl_script_rules.specs.OperationTargets.{names}
use Rattle.widl_script.proofs.FirstBlocks.{new_put, same_block, there_stays}
use Rattle.widl_script.proofs.callee_blocks.add_block.Goals as goal

pub returns-then-contains_key : goal.returns-then-contains_key
returns-then-contains_key c = λ owner name k.
    let target = c.args.target in
    let blocks = c.args.blocks.now in
    there_stays (names target owner name k) (block_for blocks owner name k) c.args.number
    (λ e. ap is_some (same_block blocks target owner name k e) ∙ sym c.contains_key.ensures ∙ c.if-contains_key.true)

pub returns : goal.returns
returns c = λ owner name k.
    let target = c.args.target in
    let old = c.args.blocks.now in
    let new = c.insert.new.self in
    new_put (names target owner name k) (block_for old owner name k) (block_for new owner name k) c.args.number
    (c.in_ok-insert.ensures.updates.0 (record { owner = record { ref_ptr = (0, 0); now = owner }; name = record { ref_ptr = (0, 0); now = name }; overload = k }))
    (λ e. ap is_some (same_block old target owner name k e) ∙ sym c.contains_key.ensures ∙ c.if-contains_key.false)
