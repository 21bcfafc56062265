use Rattle.std.proofs.Common.{◌≡◌, drop, map}
use Rattle.std.specs.List.{list_all}
use Rattle.widl_idl.specs.DefinitionTerms.{defs_term, sig_term}
use Rattle.widl_overload.specs.sets.Entries.{entry_for}
use Rattle.widl_overload.specs.sets.Index.{apart_at}
use Rattle.widl_overload.specs.sets.Standing.{args_in}
use Rattle.widl_tables.specs.EntriesByNumber.{entries_in}
use Rattle.widl_tables.proofs.telling.is_apart_from_each.Given as goal

abbrev pub invariant-loop-other : goal.invariant-loop-other
invariant-loop-other l =
    let test = apart_at (defs_term l.defs).ifaces l.place (entry_for l.overload (args_in (map sig_term l.sigs) l.overload) l.argcount) in
    list_all test (entries_in (map sig_term l.sigs) l.argcount l.others) ≡ list_all test (entries_in (map sig_term l.sigs) l.argcount (drop l.other-index l.others))
