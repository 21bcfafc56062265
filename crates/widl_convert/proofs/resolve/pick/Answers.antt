use Rattle.std.proofs.Common.{◌≡◌, ap, subst, ◌∙◌}
use Rattle.widl_idl.specs.DefinitionTerms.{DefsTerm, defs_term}
use Rattle.widl_idl.specs.MergedSets.{MergedSet}
use Rattle.widl_tables.specs.Kept.{entries_for}
use Rattle.widl_tables.specs.Picks.{pick_kept}
use Rattle.widl_convert.proofs.resolve.pick.Goals as goal

pub returns : goal.returns
returns c =
    let same : defs_term c.defs.result.now ≡ defs_term c.args.tables.now.defs = ap defs_term (c.defs.ensures.defs ∙ ap (λ (s : MergedSet). s.defs) c.list.ensures) in
    subst (λ (l : DefsTerm). c.pick_overload.result ≡ pick_kept l (entries_for l c.args.resolution.now.kept.callee c.args.resolution.now.kept.argcount c.args.resolution.now.kept.overloads) c.args.resolution.now.kept.place c.args.class c.args.probed) same c.pick_overload.ensures
