use Rattle.std.proofs.Common.{◌≡◌, map, take}
use Rattle.widl_store.specs.Plans.{object_of}
use Rattle.widl_store.specs.Rows.{plan_of_row}
use Rattle.widl_store.proofs.initial_store.objects_of.Given as goal

abbrev pub invariant-loop-row : goal.invariant-loop-row
invariant-loop-row l = l.objects.items ≡ map object_of (map plan_of_row (take l.row-index l.rows))
