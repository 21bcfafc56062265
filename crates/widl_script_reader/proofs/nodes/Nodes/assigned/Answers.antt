use Rattle.widl_script_words.proofs.Parts.{in_ok}
use Rattle.widl_script_reader.proofs.LineForms.{assigned_holds}
use Rattle.widl_script_reader.proofs.nodes.Nodes.assigned.Goals as goal

pub returns-clause-tree : goal.returns-clause-tree
returns-clause-tree c = in_ok c.expression.result _ _ (λ value h. assigned_holds _ value _ _ _ c.take.ensures h) c.expression.ensures.tree
