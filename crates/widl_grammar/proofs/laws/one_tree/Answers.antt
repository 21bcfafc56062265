use Rattle.std.proofs.Common.{refl}
use Rattle.widl_grammar.specs.declared.rule.Rule.TheVariants.{Definitions}
use Rattle.widl_grammar.proofs.laws.one_tree.Goals as goal

pub returns : goal.returns
returns c = λ w d e. c.one_tree.ensures Definitions w refl d e
