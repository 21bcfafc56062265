use Rattle.widl_script_reader.proofs.LineForms.{return_holds}
use Rattle.widl_script_reader.proofs.nodes.Nodes.return_line.Goals as goal

pub returns-clause-tree : goal.returns-clause-tree
returns-clause-tree c = return_holds _ _ _ _ _ c.requires.begins c.take.ensures c.in_ok-expression.ensures.tree
