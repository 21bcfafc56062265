use Rattle.std.proofs.Common.{refl}
use Rattle.widl_grammar.specs.declared.rule.Rule.TheVariants as rule
use Rattle.widl_grammar.specs.declared.terminal.Terminal.TheVariants as terminal
use Rattle.widl_syntax.proofs.Reading.{by_only, and_then, took, took_identifier}
use Rattle.widl_syntax.proofs.build.reader.Reader.typedef.Goals as goal

pub returns : goal.returns
returns c = by_only rule.Typedef refl
    (and_then (took terminal.Typedef c.take-word.ensures)
    (and_then c.in_ok-ty.ensures.reads
    (and_then (took_identifier c.in-Ok.ensures)
    (took terminal.Semicolon c.take-semicolon.ensures))))
