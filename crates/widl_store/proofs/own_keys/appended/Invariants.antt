use Rattle.std.proofs.Common.{◌≡◌, ◌++◌}
use Rattle.widl_store.proofs.own_keys.appended.Given as goal

abbrev pub invariant-loop-key : goal.invariant-loop-key
invariant-loop-key l = l.all ≡ l.fn.all ++ l.yielded
