use Rattle.std.proofs.Common.{arith}
use Rattle.widl_idl.specs.PlainTrees.{PlainArgument, argument_of}
use Rattle.widl_idl.proofs.Somewhere.{somewhere_none}
use Rattle.widl_overload.specs.rules.ArgumentRules.{AtEllipsis, FollowsEllipsis}
use Rattle.widl_names.proofs.MappedLoops.{at_one_end, at_one_step, none_at_one, somewhere_step}
use Rattle.widl_definition_rules.proofs.argument_rules.ellipsis_in.Goals as goal

pub loop-argument-init : goal.loop-argument-init
loop-argument-init c = (none_at_one FollowsEllipsis, somewhere_none (λ (b : PlainArgument). AtEllipsis b.kind))

pub loop-argument-preserved : goal.loop-argument-preserved
loop-argument-preserved c = (
  at_one_step argument_of c.args.arguments.now FollowsEllipsis c.loop-argument.argument-index c.argument-item.result c.loop-argument.best c.loop-argument.before c.earlier_violation-best.result (omega arith) c.argument-item.is c.earlier_violation-best.ensures c.loop-argument.invariant.1 c.loop-argument.invariant.0,
  somewhere_step argument_of c.args.arguments.now (λ (b : PlainArgument). AtEllipsis b.kind) c.loop-argument.argument-index c.argument-item.result c.loop-argument.before c.ellipsis_of.result c.earlier_violation-before.result (omega arith) c.argument-item.is c.earlier_violation-before.ensures c.ellipsis_of.ensures c.loop-argument.invariant.1,
)

pub returns : goal.returns
returns c = at_one_end argument_of c.args.arguments.now FollowsEllipsis c.loop-argument.argument-index c.loop-argument.best (omega arith) c.loop-argument.invariant.0
