use Rattle.std.proofs.Common.{◌∙◌, ap, map, subst, sym}
use Rattle.widl_store.specs.Objects.{replaced}
use Rattle.widl_store.specs.Order.{in_order}
use Rattle.widl_store.proofs.Changing.{IsKept, all_kept, changed_kept, replaced_in_order}
use Rattle.widl_store.proofs.numbered_map.NumberedMap.set.Goals as goal

pub invariant_of-self : goal.invariant_of-self
invariant_of-self c =
    let k = subst (IsKept c.self.inside.next) (sym c.set_in.ensures.changed) (changed_kept c.args.key.now c.args.prop c.self.inside.next c.self.inside.entries.entries (all_kept _ _ c.self.invariant.below c.self.invariant.once)) in
    record { below = k.below; once = k.once; keys = c.set_in.ensures.unique }

pub returns : goal.returns
returns c =
    ap (in_order c.self.inside.next) c.set_in.ensures.changed
    ∙ replaced_in_order c.args.key.now c.args.prop c.self.inside.next c.self.inside.entries.entries
    ∙ ap (map (replaced c.args.key.now c.args.prop)) c.self.view_is
