use Rattle.widl_grammar.specs.declared.rule.Rule.TheVariants.{Definitions}
use Rattle.widl_grammar.proofs.laws.one_fault.Goals as goal

pub returns : goal.returns
returns c = λ w e f a b. c.one_fault.ensures Definitions w e f a b
