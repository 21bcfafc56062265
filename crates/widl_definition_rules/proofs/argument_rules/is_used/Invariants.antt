use Rattle.std.proofs.Common.{◌≡◌, false, map, take, bytes_eq}
use Rattle.std.specs.List.{list_any}
use Rattle.widl_idl.specs.PlainTrees.{PlainArgument, argument_of}
use Rattle.widl_definition_rules.proofs.argument_rules.is_used.Given as goal

abbrev pub invariant-loop-argument : goal.invariant-loop-argument
invariant-loop-argument l = list_any (λ (a : PlainArgument). bytes_eq a.name.text l.text) (map argument_of (take l.argument-index l.arguments)) ≡ false
