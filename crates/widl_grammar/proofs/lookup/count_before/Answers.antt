use Rattle.widl_grammar.proofs.FirstBytes.{from_within}
use Rattle.widl_grammar.proofs.lookup.count_before.Goals as goal

pub returns-clause-within : goal.returns-clause-within
returns-clause-within c = from_within c.args.byte c.requires
