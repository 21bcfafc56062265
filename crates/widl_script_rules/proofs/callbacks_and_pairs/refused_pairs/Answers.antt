use Rattle.std.proofs.Common.{◌∷◌, ◌∙◌, [], Bool, List, ℕ, ap, refl, subst, sym, if◌then◌else◌}
use Rattle.widl_script_rules.specs.Surroundings.{plain_line}
use Rattle.widl_script_rules.specs.UsedPlaces.{FirstAt}
use Rattle.widl_script_rules.proofs.callbacks_and_pairs.refused_pairs.Goals as goal

pub returns-then-changes_pairs : goal.returns-then-changes_pairs
returns-then-changes_pairs c =
    subst (λ (ws : List ℕ). FirstAt 14 (plain_line c.args.line.now) ws c.place_near.result) (sym (c.changes_pairs.ensures ∙ ap (λ (b : Bool). if b then 0 ∷ [] else []) c.if-changes_pairs.true)) (c.place_near.ensures 0 refl)
