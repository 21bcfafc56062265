use Rattle.widl_grammar.proofs.Spellings.{quoted_is}
use Rattle.widl_grammar.proofs.laws.spelling_tells_terminal.Goals as goal

pub returns : goal.returns
returns c = λ t text e. quoted_is t text e
