use Rattle.std.proofs.Common.{ap}
use Rattle.widl_script_reader.specs.ReadExpressions.{is_member}
use Rattle.widl_script_reader.proofs.Growing.{widens_then}
use Rattle.widl_script_words.proofs.Parts.{in_ok, on_ok}
use Rattle.widl_script_reader.proofs.BuiltExpressions.{dot_continues}
use Rattle.widl_script_reader.proofs.nodes.Nodes.dot_member.Goals as goal

pub returns-clause-tree : goal.returns-clause-tree
returns-clause-tree c = in_ok c.put.result _ _ (λ place p. dot_continues _ _ _ _ _ place _ _ _ c.requires.begins c.requires.within c.take.ensures c.in_ok-number.ensures.name p) c.put.ensures.put

pub returns-clause-member : goal.returns-clause-member
returns-clause-member c = in_ok c.put.result _ _ (λ place p. ap is_member p.held) c.put.ensures.put

pub returns-clause-grown : goal.returns-clause-grown
returns-clause-grown c = on_ok c.put.result _ _ (λ place p. widens_then c.in_ok-number.ensures.grown p.widens) c.put.ensures.put
