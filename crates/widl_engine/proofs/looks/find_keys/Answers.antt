use Rattle.std.proofs.Common.{List, ap, refl, ◌∙◌}
use Rattle.widl_dialog.specs.Dialog.{End}
use Rattle.widl_text.specs.declared.key.Key.{Key}
use Rattle.widl_store.specs.OwnKeys.{keys_at}
use Rattle.widl_steps.specs.AskTerms.{KeysAnswer}
use Rattle.widl_runs.specs.Actions.{AreKeys, own_keys_of}
use Rattle.widl_runs.specs.Ends.{Seen}
use Rattle.widl_runs.specs.Jobs.{Doing}
use Rattle.widl_engine.specs.Frames.{move_of}
use Rattle.widl_engine.proofs.Acting.{performed}
use Rattle.widl_engine.proofs.KeysFound.{keys_are}
use Rattle.widl_engine.proofs.looks.find_keys.Goals as goal

pub returns : goal.returns
returns c p s =
    let keys = keys_at c.args.store.now.objects c.args.obj.id in
    performed (AreKeys (own_keys_of keys)) (λ k ls. refl)
    (ap (move_of p s) c.seen.ensures ∙ ap (λ (all : List Key). let d : Doing = End (Seen (KeysAnswer all)) in d) (keys_are keys c.in_ok-own_keys.field-0 c.in_ok-own_keys.ensures))
