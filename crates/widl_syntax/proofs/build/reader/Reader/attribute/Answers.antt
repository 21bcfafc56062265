use Rattle.std.proofs.Common.{refl, []}
use Rattle.widl_grammar.specs.declared.rule.Rule.TheVariants as rule
use Rattle.widl_grammar.specs.declared.terminal.Terminal.TheVariants as terminal
use Rattle.widl_syntax.proofs.Reading.{by_only, and_then, took}
use Rattle.widl_syntax.proofs.Words.{by_word}
use Rattle.widl_syntax.proofs.build.reader.Reader.attribute.Goals as goal

pub returns-clause-reads : goal.returns-clause-reads
returns-clause-reads c = by_only rule.Attribute refl
    (and_then (took terminal.Attribute c.take-word.ensures)
    (and_then c.in_ok-ty.ensures.reads
    (and_then (by_word rule.AttributeName [] refl refl c.in-Ok.ensures)
    (took terminal.Semicolon c.take-semicolon.ensures))))
