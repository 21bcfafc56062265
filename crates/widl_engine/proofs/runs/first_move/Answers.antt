use Rattle.std.proofs.Common.{ap, ◌∙◌}
use Rattle.widl_dialog.specs.Dialog.{Steps}
use Rattle.widl_script_tree.specs.Tables.{statements_tree}
use Rattle.widl_script_tree.specs.declared.row.Row.{Row}
use Rattle.widl_script_tree.specs.Trees.{StatementTrees}
use Rattle.widl_runs.specs.Jobs.{Doing, RunStatements}
use Rattle.widl_runs.specs.Traces.{last_line}
use Rattle.widl_engine.proofs.WholeRuns.{top_tree}
use Rattle.widl_engine.proofs.runs.first_move.Goals as goal

pub returns : goal.returns
returns c set =
    ap (λ (l : StatementTrees). let d : Doing = Steps (RunStatements l) last_line in d)
    (ap (λ (row : Row). statements_tree c.args.script.now row) c.top.ensures ∙ top_tree c.args.script.now)
