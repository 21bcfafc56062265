use Rattle.std.proofs.Common.{◌≡◌, filter}
use Rattle.widl_store.specs.OwnKeys.{is_index, is_name, is_symbol}
use Rattle.widl_store.proofs.own_keys.grouped.Given as goal

abbrev pub invariant-loop-key : goal.invariant-loop-key
invariant-loop-key l = (l.groups.indices.items ≡ filter is_index l.yielded) × (l.groups.names.items ≡ filter is_name l.yielded) × (l.groups.symbols.items ≡ filter is_symbol l.yielded)
