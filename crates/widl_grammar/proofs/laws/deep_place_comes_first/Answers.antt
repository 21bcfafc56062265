use Rattle.widl_grammar.specs.declared.rule.Rule.TheVariants.{Definitions}
use Rattle.widl_grammar.proofs.laws.deep_place_comes_first.Goals as goal

pub returns : goal.returns
returns c = λ w j k d p. c.deep_place_comes_first.ensures Definitions w j k d p
