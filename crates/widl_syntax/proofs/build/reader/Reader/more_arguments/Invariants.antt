use Rattle.widl_grammar.specs.declared.rule.Rule.TheVariants as rule
use Rattle.widl_grammar.specs.declared.terminal.Terminal.TheVariants as terminal
use Rattle.widl_syntax.specs.Signs.{after}
use Rattle.widl_syntax.specs.UnparsedMembers.{argument}
use Rattle.widl_syntax.proofs.Lists.{Adds}
use Rattle.widl_syntax.proofs.build.reader.Reader.more_arguments.Given as goal

abbrev pub invariant-loop : goal.invariant-loop
invariant-loop l = Adds rule.MoreArguments (after terminal.Comma argument) l.initial.self l.self l.initial.arguments l.arguments l.counter
