use Rattle.widl_script_reader.proofs.LineForms.{delete_holds}
use Rattle.widl_script_reader.proofs.nodes.Nodes.delete_line.Goals as goal

pub returns-clause-tree : goal.returns-clause-tree
returns-clause-tree c = delete_holds _ _ _ _ _ _ c.requires.begins c.take.ensures c.in_ok-member.ensures.some c.in_ok-member.ensures.tree c.member_or_any-member.ensures
