use Rattle.std.proofs.Common.{◌≡◌, ◌∙◌, ap, sym, refl}
use Rattle.widl_value.specs.declared.object.ObjRef.{ObjRef}
use Rattle.widl_trace.specs.declared.event.Event.{Event}
use Rattle.widl_trace.specs.declared.event.Event.TheVariants as events
use Rattle.widl_runs.specs.Jobs.{nothing}
use Rattle.widl_engine.specs.Frames.{move_of, keys_by}
use Rattle.widl_engine.proofs.asks.finds_keys.Goals.{in-Keys, in_default}
use Rattle.widl_engine.proofs.asks.finds_keys.Goals as goal

-- after no other line keys are listed
other_line : (e : Event) → ((object : ObjRef) → e ≡ events.Keys object → ⊥) → nothing ≡ keys_by e
other_line (events.Keys object) other = absurd (other object refl)
other_line (events.Get object key) other = refl
other_line (events.Own object key) other = refl
other_line (events.Call f this args) other = refl
other_line (events.New f args) other = refl
other_line (events.Ret v) other = refl
other_line (events.Thr v) other = refl
other_line (events.Op callee overload vs) other = refl
other_line (events.Error object code) other = refl
other_line (events.Fulfilled promise v) other = refl
other_line (events.Rejected promise v) other = refl
other_line (events.Waits promise on method) other = refl
other_line (events.Show v) other = refl
other_line (events.Job promise on method) other = refl
other_line events.Done other = refl
other_line (events.Uncaught v) other = refl
other_line events.StopBudget other = refl
other_line events.StopDepth other = refl
other_line (events.StopProfile number) other = refl

pub returns : goal.returns
returns c = λ p s. elim c.match-event.branch [
  | in-Keys w ↦ ap (move_of p s) w.result-is ∙ ap keys_by (sym w.in-Keys.is)
  | in_default w ↦ ap (move_of p s) w.result-is ∙ w.ends.ensures p s ∙ other_line c.args.event w.in_default.not-Keys
]
