use Rattle.widl_grammar.proofs.Spelled.{spelled_quoted}
use Rattle.widl_grammar.proofs.laws.spelled_terminals_are_quoted_tokens.Goals as goal

pub returns : goal.returns
returns c = λ t text e. spelled_quoted t text e
