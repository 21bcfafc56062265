use Rattle.widl_script_reader.proofs.LineForms.{no_line_holds}
use Rattle.widl_script_reader.proofs.nodes.Nodes.no_line.Goals as goal

pub returns-clause-tree : goal.returns-clause-tree
returns-clause-tree c = no_line_holds _ _ _ _ c.requires.head c.requires.other c.in_ok-expression.ensures.tree
