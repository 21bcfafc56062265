use Rattle.std.proofs.Common.{◌≡◌, ◌-◌, map}
use Rattle.widl_idl.specs.DefinitionTerms.{defs_term, sig_term}
use Rattle.widl_tables.specs.Kept.{telling_from}
use Rattle.widl_tables.specs.EntriesByNumber.{entries_in}
use Rattle.widl_tables.proofs.telling.telling_place.Given as goal

abbrev pub invariant-loop-place : goal.invariant-loop-place
invariant-loop-place l =
    telling_from (defs_term l.defs).ifaces (entries_in (map sig_term l.sigs) l.argcount l.overloads) 0 l.argcount
    ≡ telling_from (defs_term l.defs).ifaces (entries_in (map sig_term l.sigs) l.argcount l.overloads) l.place (l.argcount - l.place)
