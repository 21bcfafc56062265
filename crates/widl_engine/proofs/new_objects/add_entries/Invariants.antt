use Rattle.std.proofs.Common.{◌≡◌, ◌≤◌, length, drop}
use Rattle.widl_store.specs.Objects.{IsLive, with_objects}
use Rattle.widl_steps.specs.AskTerms.{NewObject}
use Rattle.widl_runs.specs.Actions.{data_properties, plan_of, with_new, with_properties}
use Rattle.widl_engine.proofs.new_objects.add_entries.Given as goal

-- the properties that are left still lead to the whole object
abbrev pub invariant-each : goal.invariant-each
invariant-each l =
    (length l.entries ≡ length l.fn.entries)
    × (l.place ≤ l.count)
    × IsLive l.store.objects l.object
    × (with_objects l.store (with_properties l.store.objects l.object.id (data_properties (drop l.place l.entries))) ≡ with_objects l.fn.store (with_new l.fn.store.objects (plan_of (NewObject l.fn.entries))))
