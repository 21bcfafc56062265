use Rattle.std.proofs.Common.{◌≡◌, sym, subst, ap, ◌∙◌}
use Rattle.std.specs.Prelude.{◌+◌, ◌∷◌, length}
use Rattle.widl_idl.specs.DefinitionTerms.{defs_term}
use Rattle.widl_value.specs.IdlTerms.{idl_terms}
use Rattle.widl_steps.specs.Built.{built_today}
use Rattle.widl_steps.specs.Resolution.{arguments}
use Rattle.widl_steps.specs.Tasks.{Talk}
use Rattle.widl_convert.specs.declared.resolution.Resolution.{Resolution}
use Rattle.widl_convert.specs.Entries.{after_arguments, entries_left, left_from, place_in}
use Rattle.widl_convert.specs.Frames.{move_dialog}
use Rattle.widl_convert.proofs.Resolving.{last_is}
use Rattle.widl_convert.proofs.resolve.arguments.Goals as goal

pub returns-in-None-clause-dialog : goal.returns-in-None-clause-dialog
returns-in-None-clause-dialog c =
    let list = defs_term c.args.tables.now.defs in
    let old = c.deref_mut.result.now in
    subst (λ (r : Resolution). ◌≡◌ {A = Talk} (move_dialog list c.after_last.result) (arguments built_today list r.kept.callee (entries_left list r.kept r.overload) (place_in r.kept) (left_from (length (idl_terms r.made)) r.kept r.args) (idl_terms r.made)))
    c.deref_mut.ensures.value
    (c.after_last.ensures.dialog list
    ∙ (λ i. after_arguments (c.take_argument.ensures.kept i).callee (c.take_argument.ensures.overload i) (idl_terms (c.take_argument.ensures.made i)))
    ∙ sym (last_is list old.kept old.overload (left_from (length (idl_terms old.made)) old.kept old.args) (idl_terms old.made) old.several c.in-None.ensures.none))

pub returns-in-Some-clause-dialog : goal.returns-in-Some-clause-dialog
returns-in-Some-clause-dialog c =
    let list = defs_term c.args.tables.now.defs in
    let old = c.deref_mut.result.now in
    let new = c.take_argument.new.resolution in
    subst (λ (r : Resolution). ◌≡◌ {A = Talk} (move_dialog list c.with_taken.result) (arguments built_today list r.kept.callee (entries_left list r.kept r.overload) (place_in r.kept) (left_from (length (idl_terms r.made)) r.kept r.args) (idl_terms r.made)))
    c.deref_mut.ensures.value
    (c.with_taken.ensures.dialog
    ∙ (λ i. arguments built_today list (c.take_argument.ensures.kept i).callee (entries_left list (c.take_argument.ensures.kept i) (c.take_argument.ensures.overload i)) (place_in (c.take_argument.ensures.kept i)) (c.in-Some.value ∷ left_from (length (idl_terms (c.take_argument.ensures.made i)) + 1) (c.take_argument.ensures.kept i) new.args) (idl_terms (c.take_argument.ensures.made i)))
    ∙ ap (λ left. arguments built_today list old.kept.callee (entries_left list old.kept old.overload) (place_in old.kept) left (idl_terms old.made)) (sym c.in-Some.ensures.some))
