use Rattle.std.proofs.Common.{◌≡◌, ◌++◌, drop, map}
use Rattle.widl_idl.specs.DefinitionTerms.{sig_term}
use Rattle.widl_overload.specs.sets.Sets.{of_length, tuples_in}
use Rattle.widl_overload.proofs.sets.add_length.Given as goal

abbrev pub invariant-loop-number : goal.invariant-loop-number
invariant-loop-number l = tuples_in l.set ++ of_length l.m l.number (map sig_term (drop l.number l.sigs)) ≡ tuples_in l.initial.set ++ of_length l.m 0 (map sig_term l.sigs)
