use Rattle.std.proofs.Common.{◌∙◌, refl, sym}
use Rattle.widl_value.specs.declared.value.Value.TheVariants.{Undefined}
use Rattle.widl_engine.specs.declared.ends.Completion.TheVariants as completions
use Rattle.widl_engine.specs.declared.ends.JobEnd.TheVariants.{Completed as completed}
use Rattle.widl_engine.specs.declared.machine.Machine.{Machine}
use Rattle.widl_engine.proofs.Going.{stays_lead}
use Rattle.widl_engine.proofs.Leading.{over}
use Rattle.widl_engine.proofs.Straight.{next_taken, stays_back}
use Rattle.widl_engine.proofs.machine.Machine.finish_statement.Goals as goal

pub returns-in-None : goal.returns-in-None
returns-in-None c p t = let n : Machine = record { due = c.args.self.now.due; frames = c.pop.new.frames; place = c.args.self.now.place; taken = c.args.self.now.taken; budget = c.args.self.now.budget } in c.script_ends.ensures.leads p c.args.script.now t _ c.args.self.now n (over p c.args.script.now t c.args.self.now n (completed (completions.Normal Undefined)) refl refl c.in-None.ensures.none.0)

pub returns-in-Ok : goal.returns-in-Ok
returns-in-Ok c p t =
    let popped : Machine = record { due = c.args.self.now.due; frames = c.pop.new.frames; place = c.args.self.now.place; taken = c.args.self.now.taken; budget = c.args.self.now.budget } in
    next_taken p c.args.script.now t c.args.self.now popped _ c.in-Some.frame c.in-Some-next_row.row Undefined c.in-Some-next_row.ensures c.in-Some.ensures.some refl refl refl
    (c.in-Ok.ensures p c.args.script.now t c.in-Some-next_row.ensures.begin)

pub returns-in-Ok-push : goal.returns-in-Ok-push
returns-in-Ok-push c p t = let n : Machine = record { due = c.args.self.now.due; frames = c.push.new.frames; place = c.args.self.now.place; taken = c.args.self.now.taken; budget = c.args.self.now.budget } in stays_lead p c.args.script.now t t t _ _ c.args.self.now n n c.more.result (stays_back p c.args.script.now t c.args.self.now n (completed (completions.Normal Undefined)) refl (c.in-Ok-push.ensures ∙ sym c.in-Some.ensures.some) refl refl) (c.more.ensures p c.args.script.now t n)
