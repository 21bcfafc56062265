use Rattle.std.proofs.Common.{◌≤◌, length}
use Rattle.widl_grammar.specs.declared.rule.Rule.TheVariants as rule
use Rattle.widl_grammar.specs.declared.terminal.Terminal.TheVariants as terminal
use Rattle.widl_syntax.specs.Signs.{after}
use Rattle.widl_syntax.specs.UnparsedNames.{extended_attribute}
use Rattle.widl_syntax.proofs.Lists.{Adds}
use Rattle.widl_syntax.proofs.build.reader.Reader.more_extended_attributes.Given as goal

abbrev pub invariant-loop : goal.invariant-loop
invariant-loop l = record {
  adds : Adds rule.MoreExtendedAttributes (after terminal.Comma extended_attribute) l.initial.self l.self l.initial.attributes l.attributes l.counter;
  shorter : length l.self ≤ length l.initial.self;
}
