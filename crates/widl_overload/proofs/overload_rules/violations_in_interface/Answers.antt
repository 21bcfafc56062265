use Rattle.std.proofs.Common.{subst, map, sym}
use Rattle.widl_idl.specs.DefinitionTerms.{defs_term, op_name_term, sig_term}
use Rattle.widl_overload.specs.rules.OverloadRules.{operation_lists}
use Rattle.widl_overload.specs.rules.OverloadViolations.{AreViolationsAt, AreViolationsIn}
use Rattle.widl_overload.specs.sets.Sets.{AreNumbered}
use Rattle.widl_overload.proofs.Numbered.{sigs_numbered}
use Rattle.widl_overload.proofs.ViolationSteps.{violations_before}
use Rattle.widl_overload.proofs.overload_rules.violations_in_interface.Goals as goal

pub returns : goal.returns
returns c =
    let ifaces = (defs_term c.args.defs.now).ifaces in
    let first = subst (λ sigs. AreViolationsAt ifaces (map sig_term sigs) c.in_ok-constructors.constructors) c.as_slice.ensures c.in_ok-constructors.ensures in
    let later = subst (λ ops. AreViolationsIn ifaces (operation_lists (map op_name_term ops)) c.in_ok-operations.operations) c.as_slice-2.ensures c.in_ok-operations.ensures in
    violations_before ifaces (map sig_term c.args.iface.now.ctors) (operation_lists (map op_name_term c.args.iface.now.ops)) c.in_ok-constructors.constructors c.in_ok-operations.operations c.earlier.result first later c.earlier.ensures

pub violations_of_overloads-requires : goal.violations_of_overloads-requires
violations_of_overloads-requires c = subst (λ sigs. AreNumbered (map sig_term sigs)) (sym c.as_slice.ensures) (sigs_numbered c.args.iface.now.ctors c.requires.ctors)
