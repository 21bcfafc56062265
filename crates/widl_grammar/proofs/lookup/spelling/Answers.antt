use Rattle.widl_grammar.specs.declared.terminal.Terminal.TheVariants.{Identifier}
use Rattle.widl_grammar.specs.declared.spelling.TheConstants.{QUOTED}
use Rattle.widl_grammar.proofs.SpellingTable.{spelling_at}
use Rattle.widl_grammar.proofs.lookup.spelling.Goals as goal

pub returns : goal.returns
returns c = spelling_at QUOTED c.spellings.result.now c.args.number Identifier _ c.spellings.ensures c.requires
