use Rattle.widl_script_reader.proofs.Growing.{widens_then}
use Rattle.widl_script_reader.proofs.LineForms.{let_holds}
use Rattle.widl_script_reader.proofs.nodes.Nodes.let_line.Goals as goal

pub returns-clause-tree : goal.returns-clause-tree
returns-clause-tree c = let_holds _ _ _ _ _ _ _ _ _ _ c.requires.begins c.take.ensures c.in_ok-name.ensures.name c.take-2.ensures c.in_ok-value.ensures.grown c.in_ok-value.ensures.tree

pub returns-clause-grown : goal.returns-clause-grown
returns-clause-grown c = widens_then c.in_ok-name.ensures.grown c.in_ok-value.ensures.grown
