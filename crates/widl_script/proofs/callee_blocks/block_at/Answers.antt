use Rattle.std.proofs.Common.{◌∙◌, ap}
use Rattle.widl_script_tree.specs.Tables.{Tables, opened_statement, statement_tree}
use Rattle.widl_script.specs.CalleeBlocks.{lines_asked}
use Rattle.widl_script.proofs.FirstBlocks.{no_block}
use Rattle.widl_script.proofs.callee_blocks.block_at.Goals as goal

pub returns-in-Steps : goal.returns-in-Steps
returns-in-Steps c = λ is_asked.
    let t : Tables = c.args.tables.now in
    ap (lines_asked is_asked) (c.real_statement.ensures.tree ∙ ap (opened_statement t (statement_tree t)) c.in-Steps.is)

pub returns-in_default : goal.returns-in_default
returns-in_default c = λ is_asked.
    let t : Tables = c.args.tables.now in
    ap (lines_asked is_asked) c.real_statement.ensures.tree ∙ no_block t (statement_tree t) is_asked c.real_statement.result.now c.real_statement.ensures.real c.in_default.not-Steps
