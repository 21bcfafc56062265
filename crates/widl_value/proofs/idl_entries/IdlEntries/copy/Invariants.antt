use Rattle.std.proofs.Common.{◌≡◌, take, map}
use Rattle.widl_value.specs.IdlTerms.{entry_term, entry_terms}
use Rattle.widl_value.proofs.idl_entries.IdlEntries.copy.Given as goal

abbrev pub invariant-loop-entry : goal.invariant-loop-entry
invariant-loop-entry l = entry_terms l.copy ≡ map entry_term (take l.entry-index l.entry-items)
