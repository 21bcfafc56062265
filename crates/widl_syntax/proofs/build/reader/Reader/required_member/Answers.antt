use Rattle.std.proofs.Common.{refl}
use Rattle.widl_grammar.specs.declared.rule.Rule.TheVariants as rule
use Rattle.widl_grammar.specs.declared.terminal.Terminal.TheVariants as terminal
use Rattle.widl_syntax.proofs.Reading.{by_row, and_then, took, took_identifier}
use Rattle.widl_syntax.proofs.build.reader.Reader.required_member.Goals as goal

pub returns-clause-reads : goal.returns-clause-reads
returns-clause-reads c = by_row rule.DictionaryMemberRest terminal.Required c.requires refl refl
    (and_then (took terminal.Required c.take-word.ensures)
    (and_then c.in-Ok.ensures.reads
    (and_then (took_identifier c.in-Ok-name.ensures)
    (took terminal.Semicolon c.take-semicolon.ensures))))
