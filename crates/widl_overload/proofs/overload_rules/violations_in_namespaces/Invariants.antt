use Rattle.std.proofs.Common.{take, map}
use Rattle.widl_idl.specs.DefinitionTerms.{defs_term, space_term}
use Rattle.widl_overload.specs.sets.OverloadLists.{lists_of_namespaces}
use Rattle.widl_overload.specs.rules.OverloadViolations.{AreViolationsIn}
use Rattle.widl_overload.proofs.overload_rules.violations_in_namespaces.Given as goal

abbrev pub invariant-loop-space : goal.invariant-loop-space
invariant-loop-space l = AreViolationsIn (defs_term l.defs).ifaces (lists_of_namespaces (map space_term (take l.space-index l.spaces))) l.best
