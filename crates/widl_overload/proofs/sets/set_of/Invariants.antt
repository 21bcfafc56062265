use Rattle.std.proofs.Common.{◌≡◌, ◌+◌, ◌-◌, ◌++◌, map}
use Rattle.widl_idl.specs.DefinitionTerms.{sig_term}
use Rattle.widl_overload.specs.sets.Sets.{of_lengths, tuples_in}
use Rattle.widl_overload.proofs.sets.set_of.Given as goal

abbrev pub invariant-loop-m : goal.invariant-loop-m
invariant-loop-m l = tuples_in l.set ++ of_lengths l.m (l.most + 1 - l.m) (map sig_term l.sigs) ≡ of_lengths 0 (l.most + 1) (map sig_term l.sigs)
