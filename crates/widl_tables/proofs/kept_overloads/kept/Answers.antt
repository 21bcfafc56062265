use Rattle.std.proofs.Common.{map, ap, ◌∙◌}
use Rattle.widl_idl.specs.DefinitionTerms.{defs_term, sig_term}
use Rattle.widl_overload.specs.sets.Entries.{overloads_of}
use Rattle.widl_tables.specs.EntriesByNumber.{entries_in, telling_among}
use Rattle.widl_tables.proofs.Entries.{kept_entries, kept_place}
use Rattle.widl_tables.proofs.kept_overloads.kept.Goals as goal

pub returns-clause-entries : goal.returns-clause-entries
returns-clause-entries c =
    kept_entries (map sig_term c.overload_list-sigs.result.now) (overloads_of (defs_term c.args.defs.now) c.args.callee.now) c.counted-argcount.result c.args.args c.in_ok-overloads.overloads
    c.overload_list-sigs.ensures c.counted-argcount.ensures c.in_ok-overloads.ensures.numbers

pub returns-clause-place : goal.returns-clause-place
returns-clause-place c =
    c.choosing_place-place.ensures
    ∙ ap (λ numbers. telling_among (defs_term c.args.defs.now).ifaces c.counted-argcount.result (entries_in (map sig_term c.overload_list-sigs.result.now) c.counted-argcount.result numbers)) c.as_slice.ensures
    ∙ kept_place (defs_term c.args.defs.now) (map sig_term c.overload_list-sigs.result.now) (overloads_of (defs_term c.args.defs.now) c.args.callee.now) c.counted-argcount.result c.args.args c.in_ok-overloads.overloads
    c.overload_list-sigs.ensures c.counted-argcount.ensures c.in_ok-overloads.ensures.numbers
