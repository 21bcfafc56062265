use Rattle.std.proofs.Common.{◌≡◌, drop}
use Rattle.std.specs.List.{list_all}
use Rattle.widl_idl.specs.DefinitionTerms.{defs_term}
use Rattle.widl_overload.specs.sets.Index.{apart_at, terms_of_length}
use Rattle.widl_overload.specs.sets.Sets.{tuple_term}
use Rattle.widl_overload.proofs.index.is_apart_from_each.Given as goal

abbrev pub invariant-loop-u : goal.invariant-loop-u
invariant-loop-u l = list_all (apart_at (defs_term l.defs).ifaces l.place (tuple_term l.t)) (terms_of_length l.m l.others) ≡ list_all (apart_at (defs_term l.defs).ifaces l.place (tuple_term l.t)) (terms_of_length l.m (drop l.u-index l.others))
