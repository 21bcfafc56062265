use Rattle.widl_store.specs.Objects.{IsLive}
use Rattle.widl_bench.proofs.store.put_keys.Given as goal

abbrev pub invariant-loop-number : goal.invariant-loop-number
invariant-loop-number l = IsLive l.store.objects l.obj
