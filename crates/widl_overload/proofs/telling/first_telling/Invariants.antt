use Rattle.std.proofs.Common.{◌≡◌, ℕ, ◌<◌, ◌≤◌, false, map}
use Rattle.widl_idl.specs.DefinitionTerms.{defs_term, sig_term}
use Rattle.widl_overload.specs.sets.Numbers.{numbers_tell}
use Rattle.widl_overload.proofs.telling.first_telling.Given as goal

abbrev pub invariant-loop-place : goal.invariant-loop-place
invariant-loop-place l = (p : ℕ) → l.from ≤ p → p < l.place → numbers_tell (defs_term l.defs).ifaces (map sig_term l.sigs) l.overloads p ≡ false
