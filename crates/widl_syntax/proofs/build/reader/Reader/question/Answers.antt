use Rattle.widl_syntax.proofs.Types.{question_here}
use Rattle.widl_syntax.proofs.build.reader.Reader.question.Goals as goal

pub returns-clause-reads : goal.returns-clause-reads
returns-clause-reads c = question_here _ _ c.take_if.result c.take_if.ensures
