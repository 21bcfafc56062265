use Rattle.std.proofs.Common.{◌∙◌, ap}
use Rattle.widl_store.specs.Objects.{without_prop}
use Rattle.widl_store.proofs.Changing.{all_kept, left_kept, deleted_in_order}
use Rattle.widl_store.proofs.numbered_map.NumberedMap.delete.Goals as goal

pub invariant_of-self : goal.invariant_of-self
invariant_of-self c =
    let k = left_kept _ c.self.inside.next c.self.inside.entries.entries c.remove_in.new.entries.entries c.remove_in.ensures.leaves (all_kept _ _ c.self.invariant.below c.self.invariant.once) in
    record { below = k.below; once = k.once; keys = c.remove_in.ensures.unique }

pub returns : goal.returns
returns c = deleted_in_order c.args.key.now c.self.inside.next c.self.inside.entries.entries c.remove_in.new.entries.entries c.remove_in.ensures.leaves c.self.invariant.once ∙ ap (λ v. without_prop v c.args.key.now) c.self.view_is
