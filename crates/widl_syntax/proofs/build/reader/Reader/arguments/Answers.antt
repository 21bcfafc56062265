use Rattle.widl_grammar.specs.declared.terminal.Terminal.TheVariants as terminal
use Rattle.widl_syntax.proofs.Reading.{and_then, took}
use Rattle.widl_syntax.proofs.build.reader.Reader.arguments.Goals as goal

pub returns : goal.returns
returns c =
    and_then (took terminal.OpenParen c.take-open.ensures)
    (and_then c.in_ok-arguments.ensures
    (took terminal.CloseParen c.take-close.ensures))
