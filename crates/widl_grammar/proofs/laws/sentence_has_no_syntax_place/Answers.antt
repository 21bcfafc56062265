use Rattle.widl_grammar.specs.declared.rule.Rule.TheVariants.{Definitions}
use Rattle.widl_grammar.proofs.laws.sentence_has_no_syntax_place.Goals as goal

pub returns : goal.returns
returns c = λ w k d p. c.sentence_has_no_syntax_place.ensures Definitions w k d p
