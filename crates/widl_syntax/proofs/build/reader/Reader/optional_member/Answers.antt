use Rattle.std.proofs.Common.{[], ◌∷◌, refl}
use Rattle.widl_grammar.specs.declared.rule.Rule.TheVariants as rule
use Rattle.widl_grammar.specs.declared.terminal.Terminal.TheVariants as terminal
use Rattle.widl_syntax.proofs.Reading.{by_rest, other_than, and_then, took, took_identifier}
use Rattle.widl_syntax.proofs.build.reader.Reader.optional_member.Goals as goal

pub returns-clause-reads : goal.returns-clause-reads
returns-clause-reads c = by_rest rule.DictionaryMemberRest (terminal.Required ∷ []) 1 refl refl (other_than terminal.Required _ c.requires)
    (and_then c.in-Ok.ensures
    (and_then (took_identifier c.in-Ok-name.ensures)
    (and_then c.in-Ok-default_value.ensures
    (took terminal.Semicolon c.take-semicolon.ensures))))
