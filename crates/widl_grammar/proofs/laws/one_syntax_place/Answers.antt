use Rattle.widl_grammar.specs.declared.rule.Rule.TheVariants.{Definitions}
use Rattle.widl_grammar.proofs.laws.one_syntax_place.Goals as goal

pub returns : goal.returns
returns c = λ w j k a b. c.one_syntax_place.ensures Definitions w j k a b
