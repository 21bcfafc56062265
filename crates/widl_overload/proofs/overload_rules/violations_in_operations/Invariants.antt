use Rattle.std.proofs.Common.{take, map}
use Rattle.widl_idl.specs.DefinitionTerms.{defs_term, op_name_term}
use Rattle.widl_overload.specs.rules.OverloadRules.{operation_lists}
use Rattle.widl_overload.specs.rules.OverloadViolations.{AreViolationsIn}
use Rattle.widl_overload.proofs.overload_rules.violations_in_operations.Given as goal

abbrev pub invariant-loop-op : goal.invariant-loop-op
invariant-loop-op l = AreViolationsIn (defs_term l.defs).ifaces (operation_lists (map op_name_term (take l.op-index l.ops))) l.best
