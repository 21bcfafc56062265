use Rattle.std.proofs.Common.{◌≡◌, ◌+◌, List, ℕ, arith, subst, sym}
use Rattle.widl_script_tree.specs.declared.steps.Source.{Source}
use Rattle.widl_script_rules.specs.Lookups.{overload_term}
use Rattle.widl_script_rules.specs.Slots.{lost_source_slot, lost_slot}
use Rattle.widl_script_rules.specs.Surroundings.{plain_line}
use Rattle.widl_script_rules.specs.UsedPlaces.{FirstAt, capped}
use Rattle.widl_script_rules.proofs.slots.lost_source_slot.Goals as goal

pub returns-in-Slot : goal.returns-in-Slot
returns-in-Slot c = λ word e.
    let line = plain_line c.args.line.now in
    let o = overload_term c.args.overload in
    let r = c.lost_slot.result in
    let at : c.saturating_add.result ≡ capped (word + 1) = omega (arith, c.saturating_add.ensures, e) in
    subst (λ (s : Source). FirstAt 12 line (lost_source_slot o word s) r) (sym c.in-Slot.is) (subst (λ (t : List ℕ). FirstAt 12 line (lost_slot o (word + 1) t) r) c.as_slice.ensures (c.lost_slot.ensures (word + 1) at))
