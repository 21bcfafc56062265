use Rattle.std.proofs.Common.{map, take}
use Rattle.widl_idl.specs.PlainTrees.{PlainArgument, argument_of}
use Rattle.widl_names.specs.KnownTexts.{has_text}
use Rattle.widl_definition_rules.proofs.RepeatedTexts.{Repeated}
use Rattle.widl_definition_rules.proofs.argument_rules.repeated_among_many.Given as goal

abbrev pub invariant-loop-argument : goal.invariant-loop-argument
invariant-loop-argument l = Repeated (λ (x : PlainArgument). x.name.text) (λ (x : PlainArgument). x.name.at) (has_text l.known) (map argument_of (take l.argument-index l.arguments)) l.best
