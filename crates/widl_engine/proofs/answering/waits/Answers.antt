use Rattle.std.proofs.Common.{ap, ◌∙◌}
use Rattle.widl_dialog.specs.Dialog.{Steps}
use Rattle.widl_steps.specs.AskTerms.{AskKind, ask_term}
use Rattle.widl_steps.specs.Operations.{lines_of}
use Rattle.widl_calls.specs.Stack.{call_rest}
use Rattle.widl_runs.specs.Asks.{in_world}
use Rattle.widl_runs.specs.Ends.{answer_by}
use Rattle.widl_runs.specs.Jobs.{Doing, Asked}
use Rattle.widl_engine.proofs.answering.waits.Goals as goal

pub returns : goal.returns
returns c p s =
    λ i. Steps (Asked (ask_term (c.in_ok-new.ensures.ok i))) (λ end. (c.suspend-frame.ensures p s end
    ∙ ap (λ (k : AskKind). let d : Doing = in_world (call_rest p.list (lines_of p.list p.script) c.args.asker.value (answer_by k end)) in d) c.kind_of.ensures) i)
