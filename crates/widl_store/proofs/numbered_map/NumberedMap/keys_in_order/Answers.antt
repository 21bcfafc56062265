use Rattle.std.proofs.Common.{◌∙◌, ap, map, subst, sym}
use Rattle.std.specs.List.{IsDistinct}
use Rattle.std.specs.Map.{keys_of}
use Rattle.widl_store.specs.Objects.{same_key}
use Rattle.widl_store.proofs.Sorting.{pairs_in_order, pairs_distinct}
use Rattle.widl_store.proofs.numbered_map.NumberedMap.keys_in_order.Goals as goal

pub returns-clause-keys : goal.returns-clause-keys
returns-clause-keys c =
    c.in_ok-keys.ensures
    ∙ ap (map (λ e. e.0.now)) c.deref.ensures.value
    ∙ pairs_in_order c.self.inside.next c.self.inside.entries.entries c.in_ok-listed.field-0.items c.by_number-sorted.result.items c.self.invariant c.in_ok-listed.ensures c.by_number-sorted.ensures.same c.by_number-sorted.ensures.ascending
    ∙ ap keys_of c.self.view_is

pub returns-clause-once : goal.returns-clause-once
returns-clause-once c =
    subst (IsDistinct same_key) (sym (c.in_ok-keys.ensures ∙ ap (map (λ e. e.0.now)) c.deref.ensures.value))
    (pairs_distinct c.self.inside.next c.self.inside.entries.entries c.in_ok-listed.field-0.items c.by_number-sorted.result.items c.self.invariant c.in_ok-listed.ensures c.by_number-sorted.ensures.same)
