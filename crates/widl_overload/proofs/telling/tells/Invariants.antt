use Rattle.std.proofs.Common.{◌≡◌, drop, map}
use Rattle.widl_idl.specs.DefinitionTerms.{defs_term, sig_term}
use Rattle.widl_overload.specs.sets.Numbers.{numbers_tell}
use Rattle.widl_overload.proofs.telling.tells.Given as goal

abbrev pub invariant-loop-count : goal.invariant-loop-count
invariant-loop-count l = numbers_tell (defs_term l.defs).ifaces (map sig_term l.sigs) l.overloads l.place ≡ numbers_tell (defs_term l.defs).ifaces (map sig_term l.sigs) (drop l.count l.overloads) l.place
