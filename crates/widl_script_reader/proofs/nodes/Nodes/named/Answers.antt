use Rattle.widl_script_reader.proofs.Growing.{widens_then}
use Rattle.widl_script_words.proofs.Parts.{in_ok, on_ok}
use Rattle.widl_script_reader.proofs.BuiltExpressions.{named_holds}
use Rattle.widl_script_reader.proofs.nodes.Nodes.named.Goals as goal

pub returns-clause-tree : goal.returns-clause-tree
returns-clause-tree c = in_ok c.put.result _ _ (λ place p. named_holds _ _ _ _ place _ _ c.requires.leaf c.requires.formed c.in_ok-number.ensures.name p) c.put.ensures.put

pub returns-clause-grown : goal.returns-clause-grown
returns-clause-grown c = on_ok c.put.result _ _ (λ place p. widens_then c.in_ok-number.ensures.grown p.widens) c.put.ensures.put
