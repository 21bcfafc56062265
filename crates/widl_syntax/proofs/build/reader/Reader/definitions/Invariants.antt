use Rattle.widl_grammar.specs.declared.rule.Rule.TheVariants as rule
use Rattle.widl_syntax.specs.UnparsedDefinitions.{definition}
use Rattle.widl_syntax.proofs.Lists.{Goes}
use Rattle.widl_syntax.proofs.build.reader.Reader.definitions.Given as goal

abbrev pub invariant-loop : goal.invariant-loop
invariant-loop l = Goes rule.Definitions definition l.fn.self l.self l.definitions l.counter
