use Rattle.std.proofs.Common.{Option, ap, refl, ◌∙◌}
use Rattle.widl_dialog.specs.Dialog.{End}
use Rattle.widl_value.specs.declared.flags.Flags.{Flags}
use Rattle.widl_store.specs.Objects.{own_at}
use Rattle.widl_steps.specs.AskTerms.{OwnAnswer}
use Rattle.widl_runs.specs.Actions.{IsProperty}
use Rattle.widl_runs.specs.Ends.{Seen}
use Rattle.widl_runs.specs.Jobs.{Doing}
use Rattle.widl_engine.specs.Frames.{move_of}
use Rattle.widl_engine.proofs.Acting.{performed}
use Rattle.widl_engine.proofs.looks.find_own.Goals as goal

pub returns : goal.returns
returns c p s =
    performed (IsProperty (own_at c.args.store.now.objects c.args.obj.id c.args.key)) (λ k ls. refl)
    (ap (move_of p s) c.seen.ensures ∙ ap (λ (flags : Option Flags). let d : Doing = End (Seen (OwnAnswer flags)) in d) c.own.ensures)
