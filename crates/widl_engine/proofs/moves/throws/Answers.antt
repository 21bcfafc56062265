use Rattle.std.proofs.Common.{◌≡◌, ◌∙◌, ap, sym, refl}
use Rattle.widl_value.specs.declared.object.ObjRef.{ObjRef}
use Rattle.widl_trace.specs.declared.code.Code.{Code}
use Rattle.widl_trace.specs.declared.event.Event.{Event}
use Rattle.widl_trace.specs.declared.event.Event.TheVariants as events
use Rattle.widl_runs.specs.Jobs.{nothing}
use Rattle.widl_engine.specs.Frames.{move_of, throws_by}
use Rattle.widl_engine.proofs.moves.throws.Goals.{in-Error, in_default}
use Rattle.widl_engine.proofs.moves.throws.Goals as goal

-- no other line throws anything
other_line : (e : Event) → ((object : ObjRef) → (code : Code) → e ≡ events.Error object code → ⊥) → nothing ≡ throws_by e
other_line (events.Error object code) other = absurd (other object code refl)
other_line (events.Get object key) other = refl
other_line (events.Keys object) other = refl
other_line (events.Own object key) other = refl
other_line (events.Call f this args) other = refl
other_line (events.New f args) other = refl
other_line (events.Ret v) other = refl
other_line (events.Thr v) other = refl
other_line (events.Op callee overload vs) other = refl
other_line (events.Fulfilled promise v) other = refl
other_line (events.Rejected promise v) other = refl
other_line (events.Waits promise on method) other = refl
other_line (events.Show v) other = refl
other_line (events.Job promise on method) other = refl
other_line events.Done other = refl
other_line (events.Uncaught v) other = refl
other_line events.StopBudget other = refl
other_line events.StopDepth other = refl
other_line (events.StopProfile number) other = refl

pub returns : goal.returns
returns c = λ p s. elim c.match-event.branch [
  | in-Error w ↦ ap (move_of p s) w.result-is ∙ w.completes.ensures p s ∙ ap throws_by (sym w.in-Error.is)
  | in_default w ↦ ap (move_of p s) w.result-is ∙ w.ends.ensures p s ∙ other_line c.args.event w.in_default.not-Error
]
