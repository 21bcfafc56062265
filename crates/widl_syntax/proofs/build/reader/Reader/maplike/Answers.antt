use Rattle.std.proofs.Common.{refl, ap}
use Rattle.widl_grammar.specs.declared.rule.Rule.TheVariants as rule
use Rattle.widl_grammar.specs.declared.terminal.Terminal.TheVariants as terminal
use Rattle.widl_syntax.specs.UnparsedMembers.{maplike_rest}
use Rattle.widl_syntax.proofs.Reading.{by_only, and_then, took, took_at}
use Rattle.widl_syntax.proofs.Types.{of_signs}
use Rattle.widl_syntax.proofs.build.reader.Reader.maplike.Goals as goal

pub returns-clause-reads : goal.returns-clause-reads
returns-clause-reads c = of_signs (ap maplike_rest c.in_ok-new.ensures.ok) (by_only rule.Maplike refl
    (and_then (took_at terminal.Maplike c.take-at.ensures)
    (and_then (took terminal.Less c.take-less.ensures)
    (and_then c.in_ok-key.ensures.reads
    (and_then (took terminal.Comma c.take-comma.ensures)
    (and_then c.in-Ok.ensures.reads
    (and_then (took terminal.Greater c.take-greater.ensures)
    (took terminal.Semicolon c.take-semicolon.ensures))))))))
