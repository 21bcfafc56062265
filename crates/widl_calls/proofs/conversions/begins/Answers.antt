use Rattle.std.proofs.Common.{◌≡◌, ◌≤◌, subst, sym, arith}
use Rattle.std.proofs.lemmas.Result.{IfOk-weaker}
use Rattle.widl_dialog.specs.Dialog.{Say}
use Rattle.widl_dialog.specs.Rename.{rename}
use Rattle.widl_idl.specs.DefinitionTerms.{DefsTerm, defs_term}
use Rattle.widl_steps.specs.AskTerms.{BeginAnswer, ask_term}
use Rattle.widl_steps.specs.Tasks.{Talk}
use Rattle.widl_steps.specs.CallTasks.{CallTalk, Of}
use Rattle.widl_steps.specs.Operations.{StepsOf}
use Rattle.widl_convert.specs.declared.asker.Asker.{Asker}
use Rattle.widl_convert.specs.Stack.{IsCalmer, IsQuiet, Resumes, quiet, rest}
use Rattle.widl_calls.specs.Frames.{CallLeads, call_dialog, call_weight, inner_load}
use Rattle.widl_calls.proofs.InnerConversions.{in_call}
use Rattle.widl_calls.proofs.conversions.begins.Goals as goal

pub returns-in-Ask-clause-leads : goal.returns-in-Ask-clause-leads
returns-in-Ask-clause-leads c =
    let list = defs_term c.args.tables.now.defs in
    IfOk-weaker c.waits.result
    (λ m. (l : DefsTerm) (steps : StepsOf) → call_dialog l steps m ≡ Say (ask_term c.in-Ask.ask) (λ a. rename Of (rest l c.resume.new.self a)))
    (λ m. (steps : StepsOf) → CallLeads list steps (rename Of (rest list c.args.asker BeginAnswer)) (call_dialog list steps m))
    (λ m is steps. subst (λ (d : CallTalk). CallLeads list steps (rename Of (rest list c.args.asker BeginAnswer)) d) (sym (is list steps)) (in_call list steps (rest list c.args.asker BeginAnswer) (Say (ask_term c.in-Ask.ask) (rest list c.resume.new.self)) c.in-Ask.ensures.goes.1))
    c.waits.ensures.dialog

pub returns-in-Ask-clause-weight : goal.returns-in-Ask-clause-weight
returns-in-Ask-clause-weight c =
    let list = defs_term c.args.tables.now.defs in
    let less = c.in-Ask.ensures.quiet c.requires.ready in
    IfOk-weaker c.waits.result (λ m. (l : DefsTerm) → call_weight l m ≡ inner_load (quiet l c.resume.new.self)) (λ m. call_weight list m ≤ quiet list c.args.asker)
    (λ m w. (let now = w list in omega (arith, now, less))) c.waits.ensures.weight

pub returns-in_default-clause-leads : goal.returns-in_default-clause-leads
returns-in_default-clause-leads c =
    let list = defs_term c.args.tables.now.defs in
    IfOk-weaker c.ended.result
    (λ m. (l : DefsTerm) (steps : StepsOf) (d : Talk) (asker : Asker) → Resumes l d asker c.resume.result → CallLeads l steps (rename Of d) (call_dialog l steps m))
    (λ m. (steps : StepsOf) → CallLeads list steps (rename Of (rest list c.args.asker BeginAnswer)) (call_dialog list steps m))
    (λ m known steps. known list steps (rest list c.args.asker BeginAnswer) c.resume.new.self c.resume.ensures.goes) c.ended.ensures.leads

pub returns-in_default-clause-weight : goal.returns-in_default-clause-weight
returns-in_default-clause-weight c =
    let list = defs_term c.args.tables.now.defs in
    IfOk-weaker c.ended.result (λ m. (l : DefsTerm) (old new : Asker) → IsCalmer l old new c.resume.result → IsQuiet old → call_weight l m ≤ quiet l old) (λ m. call_weight list m ≤ quiet list c.args.asker)
    (λ m known. known list c.args.asker c.resume.new.self c.resume.ensures.quiet c.requires.ready) c.ended.ensures.weight
