use Rattle.widl_grammar.specs.declared.terminal.Terminal.TheVariants as terminal
use Rattle.widl_syntax.specs.UnparsedNames.{quoted_bytes}
use Rattle.widl_syntax.proofs.Reading.{took_bytes}
use Rattle.widl_syntax.proofs.build.reader.Reader.text_literal.Goals as goal

pub returns : goal.returns
returns c = took_bytes terminal.String (quoted_bytes c.in_ok-quoted_text.field-0) c.take-at.ensures c.in_ok-quoted_text.ensures
