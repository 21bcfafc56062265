use Rattle.std.proofs.Common.{arith, ◌||◌, ap, map, refl, take}
use Rattle.widl_idl.specs.PlainTrees.{PlainArgument, argument_of}
use Rattle.widl_overload.specs.rules.ArgumentRules.{FollowsOptional, is_optional}
use Rattle.widl_definition_rules.proofs.ArgumentPlaces.{required_here}
use Rattle.widl_names.proofs.MappedLoops.{any_step, at_one_end, at_one_step, none_at_one}
use Rattle.widl_definition_rules.proofs.argument_rules.required_in.Goals as goal

pub loop-argument-init : goal.loop-argument-init
loop-argument-init c = (none_at_one FollowsOptional, refl)

pub loop-argument-preserved : goal.loop-argument-preserved
loop-argument-preserved c = (
  at_one_step argument_of c.args.arguments.now FollowsOptional c.loop-argument.argument-index c.argument-item.result c.loop-argument.best c.required_after-found.result c.earlier_violation-best.result (omega arith) c.argument-item.is c.earlier_violation-best.ensures
      (required_here (map argument_of (take c.loop-argument.argument-index c.args.arguments.now)) (argument_of c.argument-item.result) c.loop-argument.optional c.required_after-found.result c.loop-argument.invariant.1 c.required_after-found.ensures)
      c.loop-argument.invariant.0,
  any_step argument_of c.args.arguments.now (λ (b : PlainArgument). is_optional b.kind) c.loop-argument.argument-index c.argument-item.result c.loop-argument.optional _ (omega arith) c.argument-item.is (ap (λ b. c.loop-argument.optional || b) c.is_optional-optional.ensures) c.loop-argument.invariant.1,
)

pub returns : goal.returns
returns c = at_one_end argument_of c.args.arguments.now FollowsOptional c.loop-argument.argument-index c.loop-argument.best (omega arith) c.loop-argument.invariant.0
