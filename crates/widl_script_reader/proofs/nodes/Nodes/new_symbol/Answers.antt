use Rattle.widl_script_words.proofs.Parts.{in_ok}
use Rattle.widl_script_reader.proofs.BuiltExpressions.{symbol_holds}
use Rattle.widl_script_reader.proofs.nodes.Nodes.new_symbol.Goals as goal

pub returns-clause-tree : goal.returns-clause-tree
returns-clause-tree c = in_ok c.put.result _ _ (λ place p. symbol_holds _ _ place _ _ _ _ c.requires.begins c.take.ensures c.take-2.ensures c.take-3.ensures p) c.put.ensures.put
