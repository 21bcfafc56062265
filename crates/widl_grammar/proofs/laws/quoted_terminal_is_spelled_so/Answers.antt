use Rattle.widl_grammar.proofs.Spelled.{quoted_spelled}
use Rattle.widl_grammar.proofs.laws.quoted_terminal_is_spelled_so.Goals as goal

pub returns : goal.returns
returns c = λ t text e. quoted_spelled t text e
