use Rattle.std.proofs.Common.{refl}
use Rattle.widl_grammar.specs.declared.rule.Rule.TheVariants as rule
use Rattle.widl_grammar.specs.declared.terminal.Terminal.TheVariants as terminal
use Rattle.widl_syntax.proofs.Reading.{by_only, and_then, took, at_token}
use Rattle.widl_syntax.proofs.build.reader.Reader.operation.Goals as goal

pub returns-clause-reads : goal.returns-clause-reads
returns-clause-reads c = by_only rule.Operation refl
    (and_then c.in_ok-result.ensures.reads
    (and_then c.in-Ok.ensures
    (at_token terminal.OpenParen c.at-open.ensures (and_then c.in-Ok-arguments.ensures
    (took terminal.Semicolon c.take-semicolon.ensures)))))
