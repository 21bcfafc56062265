use Rattle.std.proofs.Common.{◌≡◌, drop}
use Rattle.widl_idl.specs.DefinitionTerms.{defs_term}
use Rattle.widl_overload.specs.sets.Index.{apart_at, each_two, terms_of_length}
use Rattle.widl_overload.proofs.index.distinguishes.Given as goal

abbrev pub invariant-loop-number : goal.invariant-loop-number
invariant-loop-number l = each_two (apart_at (defs_term l.defs).ifaces l.place) (terms_of_length l.m l.tuples) ≡ each_two (apart_at (defs_term l.defs).ifaces l.place) (terms_of_length l.m (drop l.number l.tuples))
