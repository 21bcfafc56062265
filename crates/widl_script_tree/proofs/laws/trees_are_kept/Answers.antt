use Rattle.widl_script_tree.proofs.Growing.{expression_kept, statement_kept, name_kept}
use Rattle.widl_script_tree.proofs.laws.trees_are_kept.Goals as goal

pub returns : goal.returns
returns c =
    let t = c.args.tables.now in
    let whole = c.is_whole.ensures in
    record {
      expressions = λ u grown. expression_kept t u whole grown;
      statements = λ u grown. statement_kept t u whole grown;
      names = λ u grown. name_kept t u whole grown;
    }
