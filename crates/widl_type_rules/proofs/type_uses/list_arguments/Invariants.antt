use Rattle.std.proofs.Common.{◌≡◌, ◌++◌, flat_map, take}
use Rattle.widl_idl.specs.PlainTrees.{argument_of}
use Rattle.widl_overload.specs.rules.TypeUses.{uses_of_argument}
use Rattle.widl_type_rules.specs.UsesListed.{uses_listed}
use Rattle.widl_type_rules.proofs.type_uses.list_arguments.Given as goal

abbrev pub invariant-loop-argument : goal.invariant-loop-argument
invariant-loop-argument l = uses_listed l.uses.items ≡ uses_listed l.initial.uses.items ++ flat_map (λ x. uses_of_argument (argument_of x)) (take l.argument-index l.arguments)
