use Rattle.std.proofs.Common.{◌++◌, ◌∷◌, [], ap, sym, ◌∙◌}
use Rattle.widl_text.specs.Storage.{units_in}
use Rattle.widl_text.proofs.units.Units.push.Goals as goal
use Rattle.widl_text.proofs.units.Units.push.Goals.{in-Owned-2, in-Inline-2, in-Shared-2}

pub returns-in_ok-items-in-Shared-clause-ok : goal.returns-in_ok-items-in-Shared-clause-ok
returns-in_ok-items-in-Shared-clause-ok c =
    let before = c.as_slice-in-Shared.ensures ∙ sym (ap units_in c.in-Shared.is) ∙ c.self.view_is in
    let after = c.in_ok-items-in-Shared.ensures ∙ ap (λ units. units ++ c.args.unit ∷ []) before in
    elim c.match-self-3.branch [ in-Owned-2 w ↦ w.self-is ∙ after | in-Inline-2 w ↦ w.self-is ∙ after | in-Shared-2 w ↦ w.self-is ∙ after ]
