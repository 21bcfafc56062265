use Rattle.std.proofs.Common.{◌++◌, [], ◌∷◌, refl, ap, ◌∙◌}
use Rattle.widl_grammar.specs.declared.rule.Rule.TheVariants as rule
use Rattle.widl_grammar.specs.declared.terminal.Terminal.TheVariants as terminal
use Rattle.widl_syntax.specs.UnparsedNames.{word_if}
use Rattle.widl_syntax.specs.UnparsedDefinitions.{enumeration_value}
use Rattle.widl_syntax.proofs.Reading.{by_only, and_then, took, took_identifier}
use Rattle.widl_syntax.proofs.Lists.{separated_and}
use Rattle.widl_syntax.proofs.build.reader.Reader.enumeration.Goals as goal

pub returns : goal.returns
returns c =
    let more = c.in-Ok-more_values.ensures in
    let first = c.in-Ok-push.ensures.ok ∙ ap (λ values. values ++ c.in-Ok.first ∷ []) c.new-values.ensures in
    by_only rule.Enum refl
    (and_then (took terminal.Enum c.take-word.ensures)
    (and_then (took_identifier c.in_ok-name.ensures)
    (and_then (took terminal.OpenBrace c.take-open.ensures)
    (and_then (separated_and terminal.Comma enumeration_value (word_if c.in-Ok-more_values.trailing_comma terminal.Comma) (more.1 ∙ ap (λ values. values ++ more.0) first) c.in-Ok.ensures more.2)
    (and_then (took terminal.CloseBrace c.take-close.ensures)
    (took terminal.Semicolon c.take-semicolon.ensures))))))
