use Rattle.std.proofs.Common.{arith, map}
use Rattle.widl_idl.specs.DefinitionTerms.{defs_term, op_name_term}
use Rattle.widl_overload.specs.rules.OverloadRules.{operation_lists}
use Rattle.widl_overload.proofs.ViolationSteps.{operations_joined, violations_all, violations_next}
use Rattle.widl_overload.proofs.overload_rules.violations_in_operations.Goals as goal

pub loop-op-preserved : goal.loop-op-preserved
loop-op-preserved c = violations_next (defs_term c.args.defs.now).ifaces (λ ops. operation_lists (map op_name_term ops)) operations_joined c.args.ops.now c.loop-op.op-index c.op-item.result c.loop-op.best c.in_ok-found.found c.earlier-best.result (omega arith) c.op-item.is c.loop-op.invariant c.in_ok-found.ensures c.earlier-best.ensures

pub returns : goal.returns
returns c = violations_all (defs_term c.args.defs.now).ifaces (λ ops. operation_lists (map op_name_term ops)) operations_joined c.args.ops.now c.loop-op.op-index c.loop-op.best (omega arith) c.loop-op.invariant
