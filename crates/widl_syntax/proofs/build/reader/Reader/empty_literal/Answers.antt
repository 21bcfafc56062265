use Rattle.std.proofs.Common.{◌++◌, sym, subst}
use Rattle.widl_syntax.specs.Reading.{Reads, token}
use Rattle.widl_syntax.specs.Signs.{at, ◌⧺◌}
use Rattle.widl_syntax.proofs.Reading.{and_then, took, took_at}
use Rattle.widl_syntax.proofs.build.reader.Reader.empty_literal.Goals as goal

pub returns : goal.returns
returns c = λ opening closing e. subst (λ signs. Reads (token opening ++ token closing) (at c.take-at.result ⧺ signs) c.args.self.now c.take-close.new.self) (sym e) (and_then (took_at opening c.take-at.ensures) (took closing c.take-close.ensures))
