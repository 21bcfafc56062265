use Rattle.std.proofs.Common.{◌≤◌, ℕ, length, subst, ◌∙◌}
use Rattle.widl_idl.specs.DefinitionTerms.{defs_term}
use Rattle.widl_overload.specs.sets.Entries.{declared_args, entry_for}
use Rattle.widl_tables.proofs.Picking.{of_several}
use Rattle.widl_tables.proofs.overload_pick.pick_overload.Goals as goal

pub returns-in-Some : goal.returns-in-Some
returns-in-Some c =
    c.by_tests.ensures
    ∙ of_several (defs_term c.args.defs.now) (λ (e : ℕ). entry_for e (declared_args (defs_term c.args.defs.now) c.args.kept.now.callee e) c.args.kept.now.argcount) c.args.kept.now.overloads c.args.kept.now.place c.in-Some.place c.args.class c.args.probed
    (subst (λ numbers. 2 ≤ length numbers) c.as_slice.ensures c.in_default.len_at_least) c.in-Some.is
