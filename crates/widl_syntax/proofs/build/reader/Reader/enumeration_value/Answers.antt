use Rattle.widl_grammar.specs.declared.terminal.Terminal.TheVariants as terminal
use Rattle.widl_syntax.proofs.Reading.{took_bytes}
use Rattle.widl_syntax.proofs.build.reader.Reader.enumeration_value.Goals as goal

pub returns : goal.returns
returns c = took_bytes terminal.String _ c.take-at.ensures c.in_ok-text.ensures
