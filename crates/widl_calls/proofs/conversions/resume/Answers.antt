use Rattle.std.proofs.Common.{◌≤◌, subst, sym}
use Rattle.std.proofs.lemmas.Result.{IfOk-weaker}
use Rattle.widl_dialog.specs.Dialog.{Say}
use Rattle.widl_dialog.specs.Rename.{rename}
use Rattle.widl_idl.specs.DefinitionTerms.{DefsTerm, defs_term}
use Rattle.widl_steps.specs.AskTerms.{answer_term, ask_term}
use Rattle.widl_steps.specs.Tasks.{Talk}
use Rattle.widl_steps.specs.CallTasks.{CallTalk, Of}
use Rattle.widl_steps.specs.Operations.{StepsOf}
use Rattle.widl_convert.specs.declared.asker.Asker.{Asker}
use Rattle.widl_convert.specs.Stack.{IsCalmer, IsQuiet, Leads, Resumes, quiet, rest}
use Rattle.widl_calls.specs.Frames.{CallLeads, call_dialog, call_weight}
use Rattle.widl_calls.proofs.InnerConversions.{in_call}
use Rattle.widl_calls.proofs.conversions.resume.Goals as goal

pub returns-in-Ask-clause-leads : goal.returns-in-Ask-clause-leads
returns-in-Ask-clause-leads c steps =
    let list = defs_term c.args.tables.now.defs in
    let said = Say (ask_term c.in-Ask.ask) (rest list c.resume.new.self) in
    subst (λ (d : CallTalk). CallLeads list steps (rename Of (rest list c.args.asker.value (answer_term c.args.answer))) d) (sym (c.asks.ensures.dialog list steps))
    (in_call list steps (rest list c.args.asker.value (answer_term c.args.answer)) said (subst (λ (a : Asker). Leads list (rest list a (answer_term c.args.answer)) said) c.deref_mut.ensures.value c.in-Ask.ensures.goes.1))

pub returns-in_default-clause-leads : goal.returns-in_default-clause-leads
returns-in_default-clause-leads c =
    let list = defs_term c.args.tables.now.defs in
    let goes = subst (λ (a : Asker). Resumes list (rest list a (answer_term c.args.answer)) c.resume.new.self c.resume.result) c.deref_mut.ensures.value c.resume.ensures.goes in
    IfOk-weaker c.ended.result
    (λ m. (l : DefsTerm) (steps : StepsOf) (d : Talk) (asker : Asker) → Resumes l d asker c.resume.result → CallLeads l steps (rename Of d) (call_dialog l steps m))
    (λ m. (steps : StepsOf) → CallLeads list steps (rename Of (rest list c.args.asker.value (answer_term c.args.answer))) (call_dialog list steps m))
    (λ m known steps. known list steps (rest list c.args.asker.value (answer_term c.args.answer)) c.resume.new.self goes) c.ended.ensures.leads

pub returns-in_default-clause-weight : goal.returns-in_default-clause-weight
returns-in_default-clause-weight c =
    let list = defs_term c.args.tables.now.defs in
    let calm = subst (λ (a : Asker). IsCalmer list a c.resume.new.self c.resume.result) c.deref_mut.ensures.value c.resume.ensures.quiet in
    IfOk-weaker c.ended.result (λ m. (l : DefsTerm) (old new : Asker) → IsCalmer l old new c.resume.result → IsQuiet old → call_weight l m ≤ quiet l old) (λ m. IsQuiet c.args.asker.value → call_weight list m ≤ quiet list c.args.asker.value)
    (λ m known ready. known list c.args.asker.value c.resume.new.self calm ready) c.ended.ensures.weight
