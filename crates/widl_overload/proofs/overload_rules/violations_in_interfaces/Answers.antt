use Rattle.std.proofs.Common.{arith, subst, sym, map}
use Rattle.widl_idl.specs.DefinitionTerms.{defs_term, iface_term}
use Rattle.widl_overload.specs.sets.OverloadLists.{lists_of_interfaces}
use Rattle.widl_overload.specs.rules.OverloadViolations.{AreViolationsIn}
use Rattle.widl_overload.proofs.ViolationSteps.{interfaces_joined, one_interface, violations_all, violations_next}
use Rattle.widl_overload.proofs.overload_rules.violations_in_interfaces.Goals as goal

pub loop-iface-preserved : goal.loop-iface-preserved
loop-iface-preserved c =
    let here = subst (λ lists. AreViolationsIn (defs_term c.args.defs.now).ifaces lists c.in_ok-found.found) (sym (one_interface (iface_term c.iface-item.result))) c.in_ok-found.ensures in
    violations_next (defs_term c.args.defs.now).ifaces (λ ifaces. lists_of_interfaces (map iface_term ifaces)) interfaces_joined c.args.ifaces.now c.loop-iface.iface-index c.iface-item.result c.loop-iface.best c.in_ok-found.found c.earlier-best.result (omega arith) c.iface-item.is c.loop-iface.invariant here c.earlier-best.ensures

pub returns : goal.returns
returns c = violations_all (defs_term c.args.defs.now).ifaces (λ ifaces. lists_of_interfaces (map iface_term ifaces)) interfaces_joined c.args.ifaces.now c.loop-iface.iface-index c.loop-iface.best (omega arith) c.loop-iface.invariant
