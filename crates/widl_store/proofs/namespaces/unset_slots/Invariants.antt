use Rattle.std.proofs.Common.{◌≡◌}
use Rattle.widl_store.specs.Realm.{unset_slots}
use Rattle.widl_value.specs.IdlTerms.{slot_terms}
use Rattle.widl_store.proofs.namespaces.unset_slots.Given as goal

abbrev pub invariant-loop : goal.invariant-loop
invariant-loop l = slot_terms l.slots ≡ unset_slots l.counter
