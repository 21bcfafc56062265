use Rattle.widl_grammar.proofs.Marks.{each_marked}
use Rattle.widl_grammar.proofs.laws.levels_are_marked.Goals as goal

pub returns : goal.returns
returns c = λ rule row symbol has within. each_marked rule row symbol has within
