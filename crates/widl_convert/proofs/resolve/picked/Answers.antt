use Rattle.std.proofs.Common.{◌≡◌, false, sym, subst, ◌∙◌}
use Rattle.widl_idl.specs.DefinitionTerms.{defs_term}
use Rattle.widl_tables.specs.declared.pick.Pick.TheVariants.{Probe, Refuse}
use Rattle.widl_tables.specs.Kept.{entries_for}
use Rattle.widl_tables.specs.Picks.{pick_kept}
use Rattle.widl_steps.specs.Resolution.{kept}
use Rattle.widl_convert.specs.declared.resolution.Resolution.{Resolution}
use Rattle.widl_convert.specs.Frames.{taken}
use Rattle.widl_convert.proofs.Resolving.{picked_entry, picked_other, probed_among}
use Rattle.widl_convert.proofs.resolve.picked.Goals as goal

pub returns-in-Entry-clause-dialog : goal.returns-in-Entry-clause-dialog
returns-in-Entry-clause-dialog c =
    c.by_alone.ensures.dialog
    ∙ sym (picked_entry (defs_term c.args.tables.now.defs) c.args.resolution.value.kept c.args.resolution.value.overload (c.args.resolution.value.several c.requires.none) c.requires.none c.class.result c.args.value (taken kept (defs_term c.args.tables.now.defs) c.args.resolution.value c.args.value) c.in-Entry.overload c.pick.result c.class.ensures c.in-Entry.is
    (subst (λ (r : Resolution). c.pick.result ≡ pick_kept (defs_term c.args.tables.now.defs) (entries_for (defs_term c.args.tables.now.defs) r.kept.callee r.kept.argcount r.kept.overloads) r.kept.place c.class.result false) c.deref.ensures c.pick.ensures))

pub probe-requires-clause-among : goal.probe-requires-clause-among
probe-requires-clause-among c =
    probed_among (defs_term c.args.tables.now.defs) c.args.resolution.value.kept c.args.resolution.value.overload (c.args.resolution.value.several c.requires.none) c.requires.none c.class.result c.args.value c.in-Probe.overload c.pick.result c.class.ensures c.in-Probe.is
    (subst (λ (r : Resolution). c.pick.result ≡ pick_kept (defs_term c.args.tables.now.defs) (entries_for (defs_term c.args.tables.now.defs) r.kept.callee r.kept.argcount r.kept.overloads) r.kept.place c.class.result false) c.deref.ensures c.pick.ensures)

pub returns-in-Probe-clause-dialog : goal.returns-in-Probe-clause-dialog
returns-in-Probe-clause-dialog c =
    c.probe.ensures.dialog (defs_term c.args.tables.now.defs)
    ∙ sym (picked_other (defs_term c.args.tables.now.defs) c.args.resolution.value.kept c.args.resolution.value.overload (c.args.resolution.value.several c.requires.none) c.requires.none c.class.result c.args.value (taken kept (defs_term c.args.tables.now.defs) c.args.resolution.value c.args.value) c.pick.result (Probe c.in-Probe.overload) c.class.ensures c.in-Probe.is
    (subst (λ (r : Resolution). c.pick.result ≡ pick_kept (defs_term c.args.tables.now.defs) (entries_for (defs_term c.args.tables.now.defs) r.kept.callee r.kept.argcount r.kept.overloads) r.kept.place c.class.result false) c.deref.ensures c.pick.ensures))

pub returns-in-Refuse-clause-dialog : goal.returns-in-Refuse-clause-dialog
returns-in-Refuse-clause-dialog c =
    c.throws.ensures.dialog (defs_term c.args.tables.now.defs)
    ∙ sym (picked_other (defs_term c.args.tables.now.defs) c.args.resolution.value.kept c.args.resolution.value.overload (c.args.resolution.value.several c.requires.none) c.requires.none c.class.result c.args.value (taken kept (defs_term c.args.tables.now.defs) c.args.resolution.value c.args.value) c.pick.result Refuse c.class.ensures c.in-Refuse.is
    (subst (λ (r : Resolution). c.pick.result ≡ pick_kept (defs_term c.args.tables.now.defs) (entries_for (defs_term c.args.tables.now.defs) r.kept.callee r.kept.argcount r.kept.overloads) r.kept.place c.class.result false) c.deref.ensures c.pick.ensures))
