use Rattle.std.proofs.Common.{◌≡◌, ◌≤◌, length, drop}
use Rattle.widl_store.specs.Objects.{IsLive, with_objects}
use Rattle.widl_steps.specs.AskTerms.{NewArray}
use Rattle.widl_runs.specs.Actions.{item_properties, plan_of, with_new, with_properties}
use Rattle.widl_engine.proofs.arrays.add_array.Given as goal

-- the items that are left still lead to the whole array
abbrev pub invariant-each : goal.invariant-each
invariant-each l =
    (length l.items ≡ length l.fn.items)
    × (l.index ≤ l.count)
    × IsLive l.store.objects l.array
    × (with_objects l.store (with_properties l.store.objects l.array.id (item_properties l.index (drop l.index l.items))) ≡ with_objects l.fn.store (with_new l.fn.store.objects (plan_of (NewArray l.fn.items))))
