use Rattle.widl_script_reader.proofs.Growing.{widens_then}
use Rattle.widl_script_reader.proofs.LineForms.{function_holds}
use Rattle.widl_script_reader.proofs.nodes.Nodes.function_head.Goals as goal

pub returns-clause-tree : goal.returns-clause-tree
returns-clause-tree c = function_holds _ _ _ _ _ _ _ _ _ _ c.in_ok-name.ensures.name c.take.ensures c.in_ok-params.ensures.grown c.in_ok-params.ensures.lists c.take-2.ensures

pub returns-clause-grown : goal.returns-clause-grown
returns-clause-grown c = widens_then c.in_ok-name.ensures.grown c.in_ok-params.ensures.grown
