use Rattle.std.proofs.Common.{subst, map}
use Rattle.widl_idl.specs.DefinitionTerms.{defs_term, iface_term, space_term}
use Rattle.widl_overload.specs.sets.OverloadLists.{lists_of_interfaces, lists_of_namespaces}
use Rattle.widl_overload.specs.rules.OverloadViolations.{AreViolationsIn}
use Rattle.widl_overload.proofs.ViolationSteps.{violations_both}
use Rattle.widl_overload.proofs.overload_rules.first_overload_violations.Goals as goal

pub returns : goal.returns
returns c =
    let ifaces = (defs_term c.args.defs.now).ifaces in
    let spaces = (defs_term c.args.defs.now).spaces in
    let first = subst (λ all. AreViolationsIn ifaces (lists_of_interfaces (map iface_term all)) c.in_ok-in_interfaces.in_interfaces) c.as_slice.ensures c.in_ok-in_interfaces.ensures in
    let later = subst (λ all. AreViolationsIn ifaces (lists_of_namespaces (map space_term all)) c.in_ok-in_namespaces.in_namespaces) c.as_slice-2.ensures c.in_ok-in_namespaces.ensures in
    violations_both ifaces (lists_of_interfaces ifaces) (lists_of_namespaces spaces) c.in_ok-in_interfaces.in_interfaces c.in_ok-in_namespaces.in_namespaces c.earlier.result first later c.earlier.ensures
