use Rattle.widl_grammar.specs.declared.terminal.Terminal.TheVariants as terminal
use Rattle.widl_syntax.proofs.Reading.{and_then, took, took_identifier}
use Rattle.widl_syntax.proofs.build.reader.Reader.callback_function.Goals as goal

pub returns : goal.returns
returns c = (and_then (took_identifier c.in_ok-name.ensures)
    (and_then (took terminal.Equals c.take-equals.ensures)
    (and_then c.in-Ok.ensures.reads
    (and_then c.in-Ok-arguments.ensures
    (took terminal.Semicolon c.take-semicolon.ensures)))))
