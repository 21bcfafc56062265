use Rattle.std.proofs.Common.{length, ◌+◌, ◌≤◌}
use Rattle.widl_store.specs.Objects.{IsLive}
use Rattle.widl_bench.proofs.store.add_below.Given as goal

abbrev pub invariant-loop-added : goal.invariant-loop-added
invariant-loop-added l = record {
  few : length l.store.objects ≤ 1000019 + l.added;
  live : IsLive l.store.objects l.last;
  first : IsLive l.store.objects l.initial.last;
}
