use Rattle.std.proofs.Common.{arith}
use Rattle.widl_idl.specs.First.{AtOne}
use Rattle.widl_idl.specs.PlainTrees.{arguments_of}
use Rattle.widl_overload.specs.rules.ArgumentRules.{FollowsOptional}
use Rattle.widl_names.proofs.MappedLoops.{somewhere_end, somewhere_step}
use Rattle.widl_definition_rules.proofs.argument_rules.first_required_after_optional.Goals as goal

pub loop-list-preserved : goal.loop-list-preserved
loop-list-preserved c = somewhere_step (λ l. arguments_of l.now) c.args.lists.now (AtOne FollowsOptional) c.loop-list.list-index c.list-item.result c.loop-list.best c.required_in-found.result c.earlier_violation-best.result (omega arith) c.list-item.is c.earlier_violation-best.ensures c.required_in-found.ensures c.loop-list.invariant

pub returns : goal.returns
returns c = somewhere_end (λ l. arguments_of l.now) c.args.lists.now (AtOne FollowsOptional) c.loop-list.list-index c.loop-list.best (omega arith) c.loop-list.invariant
