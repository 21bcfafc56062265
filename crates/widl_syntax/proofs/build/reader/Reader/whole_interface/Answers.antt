use Rattle.widl_grammar.specs.declared.terminal.Terminal.TheVariants as terminal
use Rattle.widl_syntax.proofs.Reading.{and_then, took, took_identifier}
use Rattle.widl_syntax.proofs.build.reader.Reader.whole_interface.Goals as goal

pub returns-clause-reads : goal.returns-clause-reads
returns-clause-reads c = (and_then (took_identifier c.in_ok-name.ensures)
    (and_then c.in-Ok.ensures
    (and_then (took terminal.OpenBrace c.take-open.ensures)
    (and_then c.in-Ok-members.ensures
    (and_then (took terminal.CloseBrace c.take-close.ensures)
    (took terminal.Semicolon c.take-semicolon.ensures))))))
