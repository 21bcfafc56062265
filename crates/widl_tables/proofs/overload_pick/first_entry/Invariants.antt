use Rattle.std.proofs.Common.{◌≡◌, drop, map}
use Rattle.widl_idl.specs.DefinitionTerms.{defs_term, sig_term}
use Rattle.widl_tables.specs.Picks.{first_entry}
use Rattle.widl_tables.specs.EntriesByNumber.{entries_in}
use Rattle.widl_tables.proofs.overload_pick.first_entry.Given as goal

abbrev pub invariant-loop-overload : goal.invariant-loop-overload
invariant-loop-overload l =
    first_entry (defs_term l.defs) l.place l.class l.test (entries_in (map sig_term l.sigs) l.kept.argcount l.kept.overloads)
    ≡ first_entry (defs_term l.defs) l.place l.class l.test (entries_in (map sig_term l.sigs) l.kept.argcount (drop l.overload-index l.overload-items))
