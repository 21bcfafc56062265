use Rattle.std.proofs.Common.{take, map}
use Rattle.widl_idl.specs.DefinitionTerms.{defs_term, iface_term}
use Rattle.widl_overload.specs.sets.OverloadLists.{lists_of_interfaces}
use Rattle.widl_overload.specs.rules.OverloadViolations.{AreViolationsIn}
use Rattle.widl_overload.proofs.overload_rules.violations_in_interfaces.Given as goal

abbrev pub invariant-loop-iface : goal.invariant-loop-iface
invariant-loop-iface l = AreViolationsIn (defs_term l.defs).ifaces (lists_of_interfaces (map iface_term (take l.iface-index l.ifaces))) l.best
