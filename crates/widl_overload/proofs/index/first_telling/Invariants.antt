use Rattle.std.proofs.Common.{◌≡◌, ℕ, ◌<◌, false}
use Rattle.widl_idl.specs.DefinitionTerms.{defs_term}
use Rattle.widl_overload.specs.sets.Index.{apart_at, each_two, terms_of_length}
use Rattle.widl_overload.proofs.index.first_telling.Given as goal

abbrev pub invariant-loop-place : goal.invariant-loop-place
invariant-loop-place l = (p : ℕ) → p < l.place → each_two (apart_at (defs_term l.defs).ifaces p) (terms_of_length l.len l.tuples) ≡ false
