use Rattle.widl_script_words.proofs.Parts.{in_ok}
use Rattle.widl_script_reader.proofs.BuiltExpressions.{integer_holds}
use Rattle.widl_script_reader.proofs.nodes.Nodes.integer.Goals as goal

pub returns-clause-tree : goal.returns-clause-tree
returns-clause-tree c = in_ok c.put.result _ _ (λ place p. integer_holds _ _ _ place _ _ _ c.requires.begins c.number_of-number.ensures c.text.ensures c.take.ensures p) c.put.ensures.put
