use Rattle.std.proofs.Common.{refl, ap}
use Rattle.widl_grammar.specs.declared.rule.Rule.TheVariants as rule
use Rattle.widl_grammar.specs.declared.terminal.Terminal.TheVariants as terminal
use Rattle.widl_syntax.specs.UnparsedMembers.{async_iterable}
use Rattle.widl_syntax.proofs.Reading.{by_only, and_then, took, at_part}
use Rattle.widl_syntax.proofs.Types.{of_signs}
use Rattle.widl_syntax.proofs.build.reader.Reader.async_iterable.Goals as goal

pub returns : goal.returns
returns c = of_signs (ap async_iterable c.in_ok-new.ensures.ok) (by_only rule.AsyncIterable refl (at_part rule.AsyncWord refl c.at-at.ensures
    (and_then c.async_word-word.ensures
    (and_then (took terminal.Less c.take-less.ensures)
    (and_then c.in_ok-first.ensures.reads
    (and_then c.in-Ok.ensures
    (and_then (took terminal.Greater c.take-greater.ensures)
    (and_then c.in-Ok-arguments_if.ensures
    (took terminal.Semicolon c.take-semicolon.ensures)))))))))
