use Rattle.std.proofs.Common.{[], ◌∷◌, ◌++◌, ◌∙◌, ap, refl}
use Rattle.widl_script_tree.specs.declared.row.Row.{Row}
use Rattle.widl_engine.specs.declared.frames.Frame.TheVariants as frame
use Rattle.widl_engine.specs.declared.frames.ValueFrame.TheVariants as goes_on
use Rattle.widl_engine.specs.declared.machine.Machine.{Machine}
use Rattle.widl_engine.proofs.Straight.{first_taken}
use Rattle.widl_engine.proofs.machine.Machine.first_is_due.Goals as goal

pub returns : goal.returns
returns c p s t begin =
    let pushed : Machine = record { due = c.args.self.now.due; frames = c.push.new.frames; place = c.args.self.now.place; taken = c.args.self.now.taken; budget = c.args.self.now.budget } in
    first_taken p s t c.args.self.now pushed _ c.args.row begin
    (c.in_ok-push.ensures ∙ ap (λ (r : Row). c.args.self.now.frames.items ++ frame.Value (goes_on.NextStatements r) ∷ []) c.rest.ensures)
    refl refl refl c.falls_due.ensures refl refl refl refl
