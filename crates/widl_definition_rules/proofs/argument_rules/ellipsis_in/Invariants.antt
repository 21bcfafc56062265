use Rattle.std.proofs.Common.{map, take}
use Rattle.widl_idl.specs.First.{AtOne, FirstWhere, Somewhere}
use Rattle.widl_idl.specs.PlainTrees.{PlainArgument, argument_of}
use Rattle.widl_overload.specs.rules.ArgumentRules.{AtEllipsis, FollowsEllipsis}
use Rattle.widl_definition_rules.proofs.argument_rules.ellipsis_in.Given as goal

abbrev pub invariant-loop-argument : goal.invariant-loop-argument
invariant-loop-argument l =
    FirstWhere (AtOne FollowsEllipsis (map argument_of (take l.argument-index l.arguments))) l.best
    × FirstWhere (Somewhere (λ (b : PlainArgument). AtEllipsis b.kind) (map argument_of (take l.argument-index l.arguments))) l.before
