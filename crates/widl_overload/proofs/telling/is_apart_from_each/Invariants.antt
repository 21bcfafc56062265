use Rattle.std.proofs.Common.{◌≡◌, drop, map}
use Rattle.std.specs.List.{list_all}
use Rattle.widl_idl.specs.DefinitionTerms.{defs_term, sig_term}
use Rattle.widl_overload.specs.sets.Numbers.{numbers_apart}
use Rattle.widl_overload.proofs.telling.is_apart_from_each.Given as goal

abbrev pub invariant-loop-other : goal.invariant-loop-other
invariant-loop-other l = list_all (numbers_apart (defs_term l.defs).ifaces (map sig_term l.sigs) l.place l.overload) l.others ≡ list_all (numbers_apart (defs_term l.defs).ifaces (map sig_term l.sigs) l.place l.overload) (drop l.other-index l.others)
