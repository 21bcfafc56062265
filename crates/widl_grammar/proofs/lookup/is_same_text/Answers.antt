use Rattle.widl_grammar.proofs.SpellingTable.{of_other_length}
use Rattle.widl_grammar.proofs.lookup.is_same_text.Goals as goal

pub returns-else-one-other : goal.returns-else-one-other
returns-else-one-other c = of_other_length c.args.one.now c.args.other.now c.if-one-other.false
