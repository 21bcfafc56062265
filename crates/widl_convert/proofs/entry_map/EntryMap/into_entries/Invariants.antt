use Rattle.std.proofs.Common.{◌≡◌, ◌++◌, map}
use Rattle.widl_value.specs.IdlTerms.{entry_term, entry_terms}
use Rattle.widl_convert.proofs.entry_map.EntryMap.into_entries.Given as goal

abbrev pub invariant-loop-entry : goal.invariant-loop-entry
invariant-loop-entry l = entry_terms l.list ++ map entry_term l.entry-iterator ≡ map entry_term l.fn.self
