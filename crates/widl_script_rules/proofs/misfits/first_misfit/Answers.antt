use Rattle.std.proofs.Common.{◌+◌, arith, ap, subst, sym, take, Option}
use Rattle.std.proofs.lemmas.List.{take_all}
use Rattle.widl_first.specs.Keys.{IsFirst}
use Rattle.widl_idl.specs.DefinitionTerms.{defs_term}
use Rattle.widl_lines.specs.declared.script_place.ScriptPlace.{ScriptPlace}
use Rattle.widl_script_rules.specs.LeastBreak.{place_key}
use Rattle.widl_script_rules.specs.Lookups.{overload_term}
use Rattle.widl_script_rules.specs.MisfitTerms.{IsSourceMisfit}
use Rattle.widl_script_rules.specs.StepUses.{Used, used_in}
use Rattle.widl_script_rules.specs.Surroundings.{plain_line}
use Rattle.widl_script_rules.proofs.MisfitTests.{Among, among_all, among_more, among_none, same_count, use_at, whole_use}
use Rattle.widl_script_rules.proofs.misfits.first_misfit.Goals as goal

pub used-init : goal.used-init
used-init c = λ known bare. among_none (defs_term c.args.list.now) (overload_term c.args.overload) c.args.step.now (plain_line c.args.line.now) c.result_misfit-first.result (c.result_misfit-first.ensures bare)

pub used-preserved : goal.used-preserved
used-preserved c = λ known bare.
    let list = defs_term c.args.list.now in
    let o = overload_term c.args.overload in
    let step = c.args.step.now in
    let line = plain_line c.args.line.now in
    let k = c.used.each-index in
    let x = c.each-item.result in
    let w = use_at c.args.used.now (used_in step) k x c.requires (omega (arith, c.used-test.true)) c.each-item.is in
    let here : IsFirst place_key (IsSourceMisfit list o step line w.0) c.source_misfit.result =
    whole_use list o step line w.0 x c.source_misfit.result w.3 (c.source_misfit.ensures w.0.word (ap (λ (y : Used). y.word) w.3) known bare) in
    subst (λ (r : Option ScriptPlace). IsFirst place_key (Among list o step line (take (k + 1) (used_in step))) r) (sym c.first_of-first.ensures)
    (among_more list o step line (used_in step) k w.0 c.used.first c.source_misfit.result w.1 w.2 (c.used.invariant known bare) here)

pub returns : goal.returns
returns c = λ known bare.
    let list = defs_term c.args.list.now in
    let o = overload_term c.args.overload in
    let step = c.args.step.now in
    let line = plain_line c.args.line.now in
    let count = same_count c.args.used.now (used_in step) c.requires in
    among_all list o step line c.used.first
    (subst (λ us. IsFirst place_key (Among list o step line us) c.used.first) (take_all c.used.each-index (used_in step) (omega (arith, count, c.used-test.false))) (c.used.invariant known bare))
