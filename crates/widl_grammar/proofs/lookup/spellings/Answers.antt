use Rattle.std.proofs.Common.{refl}
use Rattle.widl_grammar.proofs.lookup.spellings.Goals as goal

pub returns : goal.returns
returns c = refl
