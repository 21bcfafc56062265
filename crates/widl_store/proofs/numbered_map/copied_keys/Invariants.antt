use Rattle.std.proofs.Common.{◌≡◌, map, take}
use Rattle.widl_store.proofs.numbered_map.copied_keys.Given as goal

abbrev pub invariant-loop-key : goal.invariant-loop-key
invariant-loop-key l = l.keys.items ≡ map (λ e. e.0.now) (take l.key-index l.entries)
