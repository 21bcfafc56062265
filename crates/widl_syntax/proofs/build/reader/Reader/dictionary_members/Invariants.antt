use Rattle.widl_grammar.specs.declared.rule.Rule.TheVariants as rule
use Rattle.widl_syntax.specs.UnparsedDefinitions.{dictionary_member}
use Rattle.widl_syntax.proofs.Lists.{Goes}
use Rattle.widl_syntax.proofs.build.reader.Reader.dictionary_members.Given as goal

abbrev pub invariant-loop : goal.invariant-loop
invariant-loop l = Goes rule.DictionaryMembers dictionary_member l.fn.self l.self l.members l.counter
