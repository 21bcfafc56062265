use Rattle.std.proofs.Common.{sym, subst}
use Rattle.widl_syntax.specs.Reading.{Reads, token}
use Rattle.widl_syntax.specs.Signs.{at, ◌⧺◌}
use Rattle.widl_syntax.proofs.Reading.{took_at}
use Rattle.widl_syntax.proofs.build.reader.Reader.word_literal.Goals as goal

pub returns : goal.returns
returns c = λ t e. subst (λ signs. Reads (token t) (at c.take-at.result ⧺ signs) c.args.self.now c.take-at.new.self) (sym e) (took_at t c.take-at.ensures)
