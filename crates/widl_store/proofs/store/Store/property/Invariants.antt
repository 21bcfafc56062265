use Rattle.std.proofs.Common.{◌≡◌, ◌<◌, length}
use Rattle.widl_store.specs.Found.{found_at}
use Rattle.widl_store.proofs.store.Store.property.Given as goal

abbrev pub invariant-loop-prop : goal.invariant-loop-prop
invariant-loop-prop l = (l.at < length l.self-inside.objects.items) × (found_at l.self-inside.objects.items l.id l.key ≡ found_at l.self-inside.objects.items l.at l.key)

abbrev pub decreases-loop-prop : goal.decreases-loop-prop
decreases-loop-prop l = l.at
