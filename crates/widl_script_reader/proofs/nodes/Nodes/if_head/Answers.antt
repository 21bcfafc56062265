use Rattle.widl_script_reader.proofs.Growing.{widens_then}
use Rattle.widl_script_reader.proofs.LineForms.{if_holds}
use Rattle.widl_script_reader.proofs.nodes.Nodes.if_head.Goals as goal

pub returns-clause-tree : goal.returns-clause-tree
returns-clause-tree c = if_holds _ _ _ _ _ _ _ _ c.in_ok-left.ensures.tree c.take.ensures c.in_ok-right.ensures.grown c.in_ok-right.ensures.tree

pub returns-clause-grown : goal.returns-clause-grown
returns-clause-grown c = widens_then c.in_ok-left.ensures.grown c.in_ok-right.ensures.grown
