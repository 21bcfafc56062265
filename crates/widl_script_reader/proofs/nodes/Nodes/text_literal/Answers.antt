use Rattle.widl_script_words.proofs.Parts.{in_ok}
use Rattle.widl_script_reader.proofs.BuiltExpressions.{text_holds}
use Rattle.widl_script_reader.proofs.nodes.Nodes.text_literal.Goals as goal

pub returns-clause-tree : goal.returns-clause-tree
returns-clause-tree c = in_ok c.put.result _ _ (λ place p. text_holds _ _ _ _ _ place _ _ c.requires.begins c.in_ok-text.ensures c.form.ensures c.text.ensures c.take.ensures p) c.put.ensures.put
