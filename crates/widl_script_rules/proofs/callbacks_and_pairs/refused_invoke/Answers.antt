use Rattle.std.proofs.Common.{List, ℕ, flat_map, subst, sym}
use Rattle.std.proofs.lemmas.List.{append-nil}
use Rattle.widl_script_tree.specs.declared.steps.StepLine.{StepLine}
use Rattle.widl_script_rules.specs.CallbacksAndPairs.{refused_call}
use Rattle.widl_script_rules.specs.Lookups.{overload_term}
use Rattle.widl_script_rules.specs.StepUses.{invoked_in}
use Rattle.widl_script_rules.specs.Surroundings.{plain_line}
use Rattle.widl_script_rules.specs.UsedPlaces.{FirstAt}
use Rattle.widl_script_rules.proofs.callbacks_and_pairs.refused_invoke.Goals as goal

pub returns-in-Invoke : goal.returns-in-Invoke
returns-in-Invoke c = λ list known.
    let o = overload_term c.args.overload in
    let r = c.refused_call.result in
    subst (λ (s : StepLine). FirstAt 14 (plain_line c.args.line.now) (flat_map (refused_call list o) (invoked_in s)) r) (sym c.in-Invoke.is)
    (subst (λ (ws : List ℕ). FirstAt 14 (plain_line c.args.line.now) ws r) (sym (append-nil (refused_call list o (record { word = 0; call = c.in-Invoke.call })))) (c.refused_call.ensures list known))

pub returns-in-ReturnInvoke : goal.returns-in-ReturnInvoke
returns-in-ReturnInvoke c = λ list known.
    let o = overload_term c.args.overload in
    let r = c.refused_call-in-ReturnInvoke.result in
    subst (λ (s : StepLine). FirstAt 14 (plain_line c.args.line.now) (flat_map (refused_call list o) (invoked_in s)) r) (sym c.in-ReturnInvoke.is)
    (subst (λ (ws : List ℕ). FirstAt 14 (plain_line c.args.line.now) ws r) (sym (append-nil (refused_call list o (record { word = 1; call = c.in-ReturnInvoke.call })))) (c.refused_call-in-ReturnInvoke.ensures list known))
