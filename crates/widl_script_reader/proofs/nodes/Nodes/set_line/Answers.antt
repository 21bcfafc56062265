use Rattle.widl_script_reader.proofs.Growing.{widens_then}
use Rattle.widl_script_reader.proofs.LineForms.{set_holds}
use Rattle.widl_script_reader.proofs.nodes.Nodes.set_line.Goals as goal

pub returns-clause-tree : goal.returns-clause-tree
returns-clause-tree c = set_holds _ _ _ _ _ _ _ _ _ c.requires.begins c.take.ensures c.in_ok-member.ensures.some c.in_ok-member.ensures.tree c.member_or_any-member.ensures c.in_ok-value.ensures.grown c.in_ok-value.ensures.tree

pub returns-clause-grown : goal.returns-clause-grown
returns-clause-grown c = widens_then c.in_ok-member.ensures.grown c.in_ok-value.ensures.grown
