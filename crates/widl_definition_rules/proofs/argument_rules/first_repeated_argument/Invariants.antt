use Rattle.std.proofs.Common.{map, take}
use Rattle.widl_idl.specs.First.{AtOne, FirstWhere, Somewhere}
use Rattle.widl_idl.specs.PlainTrees.{arguments_of}
use Rattle.widl_overload.specs.rules.ArgumentRules.{RepeatsArgument}
use Rattle.widl_definition_rules.proofs.argument_rules.first_repeated_argument.Given as goal

abbrev pub invariant-loop-list : goal.invariant-loop-list
invariant-loop-list l = FirstWhere (Somewhere (AtOne RepeatsArgument) (map (λ l. arguments_of l.now) (take l.list-index l.lists))) l.best
