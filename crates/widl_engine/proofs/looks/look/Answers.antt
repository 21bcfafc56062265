use Rattle.std.proofs.Common.{ap, sym, refl, ◌∙◌, Option}
use Rattle.std.specs.Option.{unwrap_or}
use Rattle.widl_dialog.specs.Dialog.{End}
use Rattle.widl_store.specs.Inners.{InnerTerm, PlainPart}
use Rattle.widl_steps.specs.AskTerms.{AnswerTerm, SightAnswer}
use Rattle.widl_runs.specs.Actions.{IsInner, inner_at}
use Rattle.widl_runs.specs.Ends.{Seen}
use Rattle.widl_runs.specs.Jobs.{Doing}
use Rattle.widl_runs.specs.Looks.{sight_of}
use Rattle.widl_engine.specs.Frames.{move_of}
use Rattle.widl_engine.proofs.Acting.{performed}
use Rattle.widl_engine.proofs.looks.look.Goals as goal

pub returns : goal.returns
returns c p s =
    performed (IsInner (inner_at c.args.store.now.objects c.args.obj)) (λ k ls. refl)
    (ap (move_of p s) c.seen.ensures ∙ ap (λ (a : AnswerTerm). let d : Doing = End (Seen a) in d) (c.sight_of.ensures ∙ ap (λ (o : Option InnerTerm). SightAnswer (sight_of c.args.what (unwrap_or o PlainPart))) (sym c.inner.ensures)))
