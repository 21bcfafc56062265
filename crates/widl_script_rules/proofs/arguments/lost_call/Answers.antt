use Rattle.std.proofs.Common.{◌∷◌, ◌++◌, ◌∙◌, [], Bool, flat_map, refl, subst, sym, if◌then◌else◌}
use Rattle.widl_script_tree.specs.declared.steps.StepLine.{StepLine}
use Rattle.widl_script_rules.specs.Arguments.{lost_call}
use Rattle.widl_script_rules.specs.Lookups.{overload_term}
use Rattle.widl_script_rules.specs.StepUses.{invoked_in}
use Rattle.widl_script_rules.specs.Surroundings.{plain_line}
use Rattle.widl_script_rules.specs.UsedPlaces.{FirstAt}
use Rattle.widl_script_rules.proofs.arguments.lost_call.Goals as goal

pub returns-then-is_lost : goal.returns-then-is_lost
returns-then-is_lost c =
    let line = plain_line c.args.line.now in
    subst (λ (s : StepLine). FirstAt 11 line (flat_map (lost_call (overload_term c.args.overload)) (invoked_in s)) c.place_near.result) (sym c.in-Invoke.is)
    (subst (λ (b : Bool). FirstAt 11 line ((if b then 1 ∷ [] else []) ++ []) c.place_near.result) (sym (sym c.is_lost.ensures ∙ c.if-is_lost.true)) (c.place_near.ensures 1 refl))

pub returns-then-is_lost-2 : goal.returns-then-is_lost-2
returns-then-is_lost-2 c =
    let line = plain_line c.args.line.now in
    let r = c.place_near-then-is_lost-2.result in
    subst (λ (s : StepLine). FirstAt 11 line (flat_map (lost_call (overload_term c.args.overload)) (invoked_in s)) r) (sym c.in-ReturnInvoke.is)
    (subst (λ (b : Bool). FirstAt 11 line ((if b then 2 ∷ [] else []) ++ []) r) (sym (sym c.is_lost-in-ReturnInvoke.ensures ∙ c.if-is_lost-2.true)) (c.place_near-then-is_lost-2.ensures 2 refl))
