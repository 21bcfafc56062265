use Rattle.std.proofs.Common.{◌≡◌, length, arith, subst, map, sym}
use Rattle.std.specs.Prelude.{IfOk}
use Rattle.std.proofs.lemmas.Result.{IfOk-weaker}
use Rattle.widl_idl.specs.DefinitionTerms.{defs_term, op_name_term, sig_term}
use Rattle.widl_overload.specs.rules.OverloadViolations.{AreViolationsAt}
use Rattle.widl_overload.specs.sets.Sets.{AreNumbered}
use Rattle.widl_overload.proofs.Numbered.{sigs_numbered}
use Rattle.widl_overload.proofs.ViolationSteps.{violations_of_named}
use Rattle.widl_overload.proofs.overload_rules.violations_of_operation.Goals as goal

pub returns-else-len-eq0 : goal.returns-else-len-eq0
returns-else-len-eq0 c =
    let some : length c.args.op.now.name ≡ 0 → ⊥ = λ e. (let size = c.len.ensures in let not = c.if-len-eq0.false in grind arith) in
    IfOk-weaker c.violations_of_overloads.result _ _ (λ found h. violations_of_named (defs_term c.args.defs.now).ifaces (op_name_term c.args.op.now) found some h) (subst (λ sigs. IfOk c.violations_of_overloads.result (AreViolationsAt (defs_term c.args.defs.now).ifaces (map sig_term sigs))) c.as_slice.ensures c.violations_of_overloads.ensures)

pub violations_of_overloads-requires : goal.violations_of_overloads-requires
violations_of_overloads-requires c = subst (λ sigs. AreNumbered (map sig_term sigs)) (sym c.as_slice.ensures) (sigs_numbered c.args.op.now.sigs c.requires)
