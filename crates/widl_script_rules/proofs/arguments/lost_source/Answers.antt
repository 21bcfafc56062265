use Rattle.std.proofs.Common.{◌∷◌, ◌∙◌, [], Bool, subst, sym, if◌then◌else◌}
use Rattle.widl_script_tree.specs.declared.steps.Source.{Source}
use Rattle.widl_script_rules.specs.Arguments.{lost_source}
use Rattle.widl_script_rules.specs.Lookups.{overload_term}
use Rattle.widl_script_rules.specs.Surroundings.{plain_line}
use Rattle.widl_script_rules.specs.UsedPlaces.{FirstAt}
use Rattle.widl_script_rules.proofs.arguments.lost_source.Goals as goal

pub returns-then-is_lost : goal.returns-then-is_lost
returns-then-is_lost c = λ word e.
    let line = plain_line c.args.line.now in
    let o = overload_term c.args.overload in
    let r = c.place_near.result in
    subst (λ (s : Source). FirstAt 11 line (lost_source o word s) r) (sym c.in-Arg.is)
    (subst (λ (b : Bool). FirstAt 11 line (if b then word ∷ [] else []) r) (sym (sym c.is_lost.ensures ∙ c.if-is_lost.true)) (c.place_near.ensures word e))

pub returns-in-This : goal.returns-in-This
returns-in-This c = λ word e.
    let line = plain_line c.args.line.now in
    subst (λ (s : Source). FirstAt 11 line (lost_source (overload_term c.args.overload) word s) c.place_near-in-This.result) (sym c.in-This.is) (c.place_near-in-This.ensures word e)
