use Rattle.widl_grammar.specs.declared.rule.Rule.TheVariants.{Definitions}
use Rattle.widl_grammar.proofs.laws.accepted_has_no_fault.Goals as goal

pub returns : goal.returns
returns c = λ w e a b. c.accepted_has_no_fault.ensures Definitions w e a b
