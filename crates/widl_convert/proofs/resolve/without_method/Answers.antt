use Rattle.std.proofs.Common.{◌≡◌, None, true, sym, subst, ◌∙◌}
use Rattle.widl_idl.specs.DefinitionTerms.{defs_term}
use Rattle.widl_value.specs.declared.value.Value.TheVariants.{Obj}
use Rattle.widl_tables.specs.Kept.{entries_for}
use Rattle.widl_tables.specs.Picks.{pick_kept}
use Rattle.widl_steps.specs.Resolution.{kept}
use Rattle.widl_convert.specs.declared.resolution.Resolution.{Resolution}
use Rattle.widl_convert.specs.Frames.{taken}
use Rattle.widl_convert.proofs.Resolving.{entry_goes_on, no_entry_goes_on}
use Rattle.widl_convert.proofs.resolve.without_method.Goals as goal

pub returns-in-Entry : goal.returns-in-Entry
returns-in-Entry c =
    c.by_alone.ensures.dialog
    ∙ sym (entry_goes_on (defs_term c.args.tables.now.defs) c.args.probe.resolution.value.kept c.args.probe.resolution.value.overload (c.args.probe.resolution.value.several c.args.probe.at_place.none) c.args.probe.at_place.none c.class.result (Obj c.args.probe.obj) true (taken kept (defs_term c.args.tables.now.defs) c.args.probe.resolution.value (Obj c.args.probe.obj) None) c.in-Entry.overload c.pick.result c.class.ensures c.in-Entry.is
    (subst (λ (r : Resolution). c.pick.result ≡ pick_kept (defs_term c.args.tables.now.defs) (entries_for (defs_term c.args.tables.now.defs) r.kept.callee r.kept.argcount r.kept.overloads) r.kept.place c.class.result true) c.deref.ensures c.pick.ensures))

pub returns-in_default : goal.returns-in_default
returns-in_default c =
    c.throws.ensures.dialog (defs_term c.args.tables.now.defs)
    ∙ sym (no_entry_goes_on (defs_term c.args.tables.now.defs) c.args.probe.resolution.value.kept c.args.probe.resolution.value.overload (c.args.probe.resolution.value.several c.args.probe.at_place.none) c.args.probe.at_place.none c.class.result (Obj c.args.probe.obj) true (taken kept (defs_term c.args.tables.now.defs) c.args.probe.resolution.value (Obj c.args.probe.obj) None) c.pick.result c.class.ensures c.in_default.not-Entry
    (subst (λ (r : Resolution). c.pick.result ≡ pick_kept (defs_term c.args.tables.now.defs) (entries_for (defs_term c.args.tables.now.defs) r.kept.callee r.kept.argcount r.kept.overloads) r.kept.place c.class.result true) c.deref.ensures c.pick.ensures))
