use Rattle.std.proofs.Common.{refl}
use Rattle.widl_grammar.specs.declared.rule.Rule.TheVariants as rule
use Rattle.widl_grammar.specs.declared.terminal.Terminal.TheVariants as terminal
use Rattle.widl_syntax.proofs.Reading.{by_only, and_then, took, took_identifier}
use Rattle.widl_syntax.proofs.build.reader.Reader.includes.Goals as goal

pub returns : goal.returns
returns c = by_only rule.Includes refl
    (and_then (took_identifier c.in_ok-interface.ensures)
    (and_then (took terminal.Includes c.take-word.ensures)
    (and_then (took_identifier c.in_ok-mixin.ensures)
    (took terminal.Semicolon c.take-semicolon.ensures))))
