use Rattle.std.proofs.Common.{arith, subst, sym, ap, ◌∙◌, map}
use Rattle.widl_idl.specs.DefinitionTerms.{defs_term, op_name_term, space_term}
use Rattle.widl_overload.specs.sets.OverloadLists.{lists_of_namespaces}
use Rattle.widl_overload.specs.rules.OverloadRules.{operation_lists}
use Rattle.widl_overload.specs.rules.OverloadViolations.{AreViolationsIn}
use Rattle.widl_overload.proofs.ViolationSteps.{namespaces_joined, one_namespace, violations_all, violations_next}
use Rattle.widl_overload.proofs.overload_rules.violations_in_namespaces.Goals as goal

pub loop-space-preserved : goal.loop-space-preserved
loop-space-preserved c =
    let here = subst (λ lists. AreViolationsIn (defs_term c.args.defs.now).ifaces lists c.in_ok-found.found) (ap (λ ops. operation_lists (map op_name_term ops)) c.as_slice.ensures ∙ sym (one_namespace (space_term c.space-item.result))) c.in_ok-found.ensures in
    violations_next (defs_term c.args.defs.now).ifaces (λ spaces. lists_of_namespaces (map space_term spaces)) namespaces_joined c.args.spaces.now c.loop-space.space-index c.space-item.result c.loop-space.best c.in_ok-found.found c.earlier-best.result (omega arith) c.space-item.is c.loop-space.invariant here c.earlier-best.ensures

pub returns : goal.returns
returns c = violations_all (defs_term c.args.defs.now).ifaces (λ spaces. lists_of_namespaces (map space_term spaces)) namespaces_joined c.args.spaces.now c.loop-space.space-index c.loop-space.best (omega arith) c.loop-space.invariant
