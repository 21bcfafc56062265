use Rattle.std.proofs.Common.{refl}
use Rattle.widl_grammar.specs.declared.rule.Rule.TheVariants as rule
use Rattle.widl_grammar.specs.declared.terminal.Terminal.TheVariants as terminal
use Rattle.widl_syntax.proofs.Reading.{by_only, and_then, took, took_at}
use Rattle.widl_syntax.proofs.build.reader.Reader.constructor.Goals as goal

pub returns : goal.returns
returns c = by_only rule.Constructor refl
    (and_then (took_at terminal.Constructor c.take-at.ensures)
    (and_then c.in_ok-arguments.ensures
    (took terminal.Semicolon c.take-semicolon.ensures)))
