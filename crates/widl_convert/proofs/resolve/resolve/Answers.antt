use Rattle.std.proofs.Common.{◌≡◌, length, ◌<◌, ◌^◌, ap, sym, subst, ◌∙◌, arith}
use Rattle.widl_dialog.specs.Dialog.{End, Steps}
use Rattle.widl_idl.specs.declared.defs.Defs.{Defs}
use Rattle.widl_idl.specs.DefinitionTerms.{DefsTerm, defs_term}
use Rattle.widl_idl.specs.MergedSets.{MergedSet}
use Rattle.widl_value.specs.IdlTerms.{idl_terms}
use Rattle.widl_overload.specs.sets.Entries.{overloads_of}
use Rattle.widl_tables.proofs.FewOverloads.{few_overloads}
use Rattle.widl_steps.specs.Resolution.{resolve}
use Rattle.widl_steps.specs.Tasks.{Arguments, Talk}
use Rattle.widl_convert.specs.Entries.{entries_left, left_from, place_in, sole}
use Rattle.widl_convert.specs.declared.resolution.Resolution.{Resolution}
use Rattle.widl_convert.specs.Frames.{resolution_task}
use Rattle.widl_convert.proofs.Resolving.{begun, opened}
use Rattle.widl_convert.proofs.resolve.resolve.Goals as goal

pub kept-requires : goal.kept-requires
kept-requires c =
    record { few = subst (λ (d : Defs). length (overloads_of (defs_term d) c.args.call.callee) < 2 ^ 32) (sym c.defs.ensures.defs) (few_overloads c.list.result.now.defs c.args.call.callee c.defs.ensures.merged.numbered) }

pub invariant_of-resolution : goal.invariant_of-resolution
invariant_of-resolution c =
    let some : 0 < length c.in_ok-kept.kept.overloads = grind (arith, c.len-2.ensures, c.if-len-eq0.false) in
    record {
      several = opened (defs_term c.defs.result.now) c.args.call.callee c.len.result c.in_ok-kept.kept c.sole-overload.result c.in_ok-kept.ensures.overloads c.in_ok-kept.ensures.place some
          (c.sole-overload.ensures ∙ ap sole c.as_slice.ensures);
    }

pub returns-clause-dialog : goal.returns-clause-dialog
returns-clause-dialog c =
    let some : 0 < length c.in_ok-kept.kept.overloads = grind (arith, c.len-2.ensures, c.if-len-eq0.false) in
    let same : defs_term c.defs.result.now ≡ defs_term c.args.tables.now.defs = ap defs_term (c.defs.ensures.defs ∙ ap (λ (s : MergedSet). s.defs) c.list.ensures) in
    ap (λ (r : Resolution). let d : Talk = Steps (resolution_task (defs_term c.args.tables.now.defs) r (length (idl_terms r.made)) (idl_terms r.made)) End in d) c.in_ok-new.ensures.ok
    ∙ subst (λ (l : DefsTerm). ◌≡◌ {A = Talk} (Steps (Arguments c.in_ok-kept.kept.callee (entries_left l c.in_ok-kept.kept c.sole-overload.result) (place_in c.in_ok-kept.kept) (left_from (length (idl_terms c.new.result)) c.in_ok-kept.kept c.args.call.args) (idl_terms c.new.result)) End) (resolve l c.args.call.callee c.args.call.args))
    same
    (begun (defs_term c.defs.result.now) c.args.call.callee c.len.result c.in_ok-kept.kept c.sole-overload.result c.args.call.args (idl_terms c.new.result) c.len.ensures c.in_ok-kept.ensures.callee c.in_ok-kept.ensures.argcount
    c.in_ok-kept.ensures.overloads c.in_ok-kept.ensures.entries c.in_ok-kept.ensures.place some (c.sole-overload.ensures ∙ ap sole c.as_slice.ensures) c.new.ensures)
