use Rattle.std.proofs.Common.{◌≡◌, Ok, Err, IfOk}
use Rattle.widl_grammar.specs.declared.terminal.Terminal.TheVariants as terminal
use Rattle.widl_grammar.specs.Source.{terminal_of}
use Rattle.widl_syntax.specs.Reading.{IfAhead}
use Rattle.widl_syntax.specs.UnparsedNames.{quoted_bytes}
use Rattle.widl_syntax.proofs.Texts.{quoted_ahead}
use Rattle.widl_syntax.proofs.build.reader.Reader.quoted_text.Goals as goal

pub returns : goal.returns
returns c =
    elim c.of_utf8.result as (λ r. IfOk r (λ copy. copy ≡ c.unquoted.result.now) → IfOk r (λ text. IfAhead c.args.self.now (λ lexeme. terminal_of lexeme ≡ terminal.String → quoted_bytes text ≡ lexeme.text))) [
      | Ok copy ↦ λ h. quoted_ahead c.args.self.now c.text.result.now c.unquoted.result.now copy c.text.ensures.bytes c.text.ensures.sound c.unquoted.ensures.bytes h
      | Err e ↦ λ h. tt
    ] c.of_utf8.ensures
