use Rattle.std.proofs.Common.{refl}
use Rattle.widl_grammar.specs.declared.rule.Rule.TheVariants as rule
use Rattle.widl_syntax.proofs.Reading.{by_only, and_then, took_identifier}
use Rattle.widl_syntax.proofs.build.reader.Reader.extended_attribute.Goals as goal

pub returns-clause-reads : goal.returns-clause-reads
returns-clause-reads c = by_only rule.ExtendedAttribute refl (and_then (took_identifier c.in_ok-name.ensures) c.in_ok-arguments.ensures.reads)
