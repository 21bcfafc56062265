use Rattle.std.proofs.Common.{◌≡◌, drop, map}
use Rattle.widl_idl.specs.DefinitionTerms.{defs_term, sig_term}
use Rattle.widl_overload.specs.sets.Index.{apart_at, each_two}
use Rattle.widl_tables.specs.EntriesByNumber.{entries_in}
use Rattle.widl_tables.proofs.telling.tells.Given as goal

abbrev pub invariant-loop-number : goal.invariant-loop-number
invariant-loop-number l =
    each_two (apart_at (defs_term l.defs).ifaces l.place) (entries_in (map sig_term l.sigs) l.argcount l.overloads)
    ≡ each_two (apart_at (defs_term l.defs).ifaces l.place) (entries_in (map sig_term l.sigs) l.argcount (drop l.number l.overloads))
