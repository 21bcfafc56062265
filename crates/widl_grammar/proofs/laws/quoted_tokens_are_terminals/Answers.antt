use Rattle.widl_grammar.proofs.QuotedTokens.{quoted_some}
use Rattle.widl_grammar.proofs.laws.quoted_tokens_are_terminals.Goals as goal

pub returns : goal.returns
returns c = λ text h. quoted_some text h
