use Rattle.std.proofs.Common.{◌≡◌, ◌++◌, drop, map}
use Rattle.widl_idl.specs.DefinitionTerms.{sig_term}
use Rattle.widl_tables.specs.Kept.{entries_of, numbers_of}
use Rattle.widl_tables.proofs.kept_overloads.having_entries.Given as goal

abbrev pub invariant-loop-number : goal.invariant-loop-number
invariant-loop-number l = l.numbers ++ numbers_of (entries_of l.m l.number (map sig_term (drop l.number l.sigs))) ≡ numbers_of (entries_of l.m 0 (map sig_term l.sigs))
