use Rattle.std.proofs.Common.{◌≡◌, map, take}
use Rattle.std.specs.List.{list_any}
use Rattle.widl_idl.specs.First.{AtOne, FirstWhere}
use Rattle.widl_idl.specs.PlainTrees.{PlainArgument, argument_of}
use Rattle.widl_overload.specs.rules.ArgumentRules.{FollowsOptional, is_optional}
use Rattle.widl_definition_rules.proofs.argument_rules.required_in.Given as goal

abbrev pub invariant-loop-argument : goal.invariant-loop-argument
invariant-loop-argument l =
    FirstWhere (AtOne FollowsOptional (map argument_of (take l.argument-index l.arguments))) l.best
    × (l.optional ≡ list_any (λ (b : PlainArgument). is_optional b.kind) (map argument_of (take l.argument-index l.arguments)))
