use Rattle.std.proofs.Common.{map, take}
use Rattle.widl_idl.specs.First.{AtOne, FirstWhere}
use Rattle.widl_idl.specs.PlainTrees.{argument_of}
use Rattle.widl_overload.specs.rules.ArgumentRules.{RepeatsArgument}
use Rattle.widl_definition_rules.proofs.argument_rules.repeated_among_few.Given as goal

abbrev pub invariant-loop-index : goal.invariant-loop-index
invariant-loop-index l = FirstWhere (AtOne RepeatsArgument (map argument_of (take l.index l.arguments))) l.best
