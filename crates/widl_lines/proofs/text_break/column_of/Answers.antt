use Rattle.widl_lines.proofs.FromMachine.{column_at}
use Rattle.widl_lines.proofs.text_break.column_of.Goals as goal

pub returns-in-Some : goal.returns-in-Some
returns-in-Some c = column_at c.args.words.now c.args.word c.args.end c.in-Some.word.now c.in-Some.ensures.lookup.0 c.in-Some.ensures.lookup.1
