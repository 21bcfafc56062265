use Rattle.std.proofs.Common.{refl, subst, sym}
use Rattle.widl_first.specs.Keys.{IsFirst}
use Rattle.widl_idl.specs.DefinitionTerms.{defs_term}
use Rattle.widl_script_tree.specs.declared.steps.StepLine.{StepLine}
use Rattle.widl_script_tree.specs.declared.steps.StepLine.TheVariants.{ReturnInvoke}
use Rattle.widl_script_rules.specs.LeastBreak.{place_key}
use Rattle.widl_script_rules.specs.Lookups.{overload_term}
use Rattle.widl_script_rules.specs.MisfitTerms.{IsResultMisfit, ResultMisfits}
use Rattle.widl_script_rules.specs.Surroundings.{plain_line}
use Rattle.widl_script_rules.proofs.MisfitTests.{tested_first}
use Rattle.widl_script_rules.proofs.misfits.result_misfit.Goals as goal

pub returns-then-is_result_misfit : goal.returns-then-is_result_misfit
returns-then-is_result_misfit c = λ bare.
    let list = defs_term c.args.list.now in
    let o = overload_term c.args.overload in
    let line = plain_line c.args.line.now in
    subst (λ (s : StepLine). IsFirst place_key (IsResultMisfit list o s line) c.place_near.result) (sym c.in-ReturnInvoke.is)
    (tested_first (ResultMisfits list o (ReturnInvoke c.in-ReturnInvoke.call)) 13 line 1 c.is_result_misfit.result c.place_near.result (c.is_result_misfit.ensures bare) c.if-is_result_misfit.true (c.place_near.ensures 1 refl))
