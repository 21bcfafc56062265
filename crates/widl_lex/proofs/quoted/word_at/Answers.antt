use Rattle.widl_lex.proofs.QuotedTable.{now_at}
use Rattle.widl_lex.proofs.quoted.word_at.Goals as goal

pub returns : goal.returns
returns c = now_at c.args.words.now c.args.place _ c.requires
