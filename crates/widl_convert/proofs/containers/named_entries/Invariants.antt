use Rattle.std.proofs.Common.{◌≡◌, ◌++◌, ◌-◌, drop, length}
use Rattle.widl_value.specs.IdlTerms.{entry_terms, idl_terms, packed_entries}
use Rattle.widl_steps.specs.Results.{entry_items, entry_names}
use Rattle.widl_convert.proofs.OutgoingItems.{before}
use Rattle.widl_convert.proofs.containers.named_entries.Given as goal

abbrev pub invariant-loop-place : goal.invariant-loop-place
invariant-loop-place l =
    (l.names ++ entry_names (packed_entries (drop l.place (entry_terms l.entries))) ≡ entry_names (packed_entries (entry_terms l.fn.entries)))
    × (before (idl_terms l.items) (entry_items (packed_entries (drop l.place (entry_terms l.entries)))) ≡ entry_items (packed_entries (entry_terms l.fn.entries)))

abbrev pub decreases-loop-place : goal.decreases-loop-place
decreases-loop-place l = length (entry_terms l.entries) - l.place
