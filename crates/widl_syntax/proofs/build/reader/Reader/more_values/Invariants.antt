use Rattle.widl_grammar.specs.declared.rule.Rule.TheVariants as rule
use Rattle.widl_grammar.specs.declared.terminal.Terminal.TheVariants as terminal
use Rattle.widl_syntax.specs.Signs.{after}
use Rattle.widl_syntax.specs.UnparsedDefinitions.{enumeration_value}
use Rattle.widl_syntax.proofs.Lists.{Adds}
use Rattle.widl_syntax.proofs.build.reader.Reader.more_values.Given as goal

abbrev pub invariant-loop : goal.invariant-loop
invariant-loop l = Adds rule.EnumMore (after terminal.Comma enumeration_value) l.fn.self l.self l.fn.values l.values l.counter
