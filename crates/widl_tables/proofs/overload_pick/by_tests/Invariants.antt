use Rattle.std.proofs.Common.{◌≡◌, drop, map}
use Rattle.widl_idl.specs.DefinitionTerms.{defs_term, sig_term}
use Rattle.widl_tables.specs.Decided.{met_test}
use Rattle.widl_tables.specs.Kept.{entries_for}
use Rattle.widl_tables.specs.Picks.{first_pick, pick_of}
use Rattle.widl_tables.specs.EntriesByNumber.{entries_in}
use Rattle.widl_tables.proofs.overload_pick.by_tests.Given as goal

abbrev pub invariant-loop-test : goal.invariant-loop-test
invariant-loop-test l =
    first_pick l.probed (map (met_test (defs_term l.defs) (entries_in (map sig_term l.sigs) l.kept.argcount l.kept.overloads) l.place l.class) (drop l.test-index l.test-items))
    ≡ pick_of (defs_term l.defs) (entries_for (defs_term l.defs) l.kept.callee l.kept.argcount l.kept.overloads) l.place l.class l.probed
