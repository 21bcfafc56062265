use Rattle.widl_store.specs.Objects.{IsLive}
use Rattle.widl_bench.proofs.store.deletions.Given as goal

abbrev pub invariant-loop-key : goal.invariant-loop-key
invariant-loop-key l = IsLive l.store.objects l.obj
