-- Each move of a suspended call leads on, and leaves less without a charge.
use Rattle.std.proofs.Common.{◌≡◌, ℕ, ◌+◌, ◌≤◌, ◌<◌, List, [], ◌∷◌, ◌++◌, refl, sym, ap, subst, ◌∙◌, arith}
use Rattle.std.specs.Prelude.{Result, Ok, Err, IfOk}
use Rattle.std.specs.declared.alloc.AllocError.{AllocError}
use Rattle.widl_dialog.specs.Stack.{stack_load}
use Rattle.widl_dialog.proofs.Positions.{here}
use Rattle.widl_dialog.proofs.Stacking as stacking
use Rattle.widl_dialog.proofs.Stacking.{load_push}
use Rattle.widl_idl.specs.DefinitionTerms.{DefsTerm}
use Rattle.widl_steps.specs.AskTerms.{Fits}
use Rattle.widl_steps.specs.BuiltCalls.{calls_built_today}
use Rattle.widl_steps.specs.CallRules.{call_rule}
use Rattle.widl_steps.specs.CallTasks.{CallTalk}
use Rattle.widl_steps.specs.Operations.{StepsOf}
use Rattle.widl_convert.specs.declared.moves.Ending.{Ending}
use Rattle.widl_convert.specs.Frames.{end_of}
use Rattle.widl_convert.specs.Loads.{given_load}
use Rattle.widl_calls.specs.declared.frames.CallFrame.{CallFrame}
use Rattle.widl_calls.specs.declared.jobs.CallJob.{CallJob}
use Rattle.widl_calls.specs.declared.moves.CallMove.{CallMove}
use Rattle.widl_calls.specs.declared.moves.CallMove.TheVariants as moves
use Rattle.widl_calls.specs.Frames.{CallLeads, call_dialog, call_frame_load, call_job_of, call_returned_to, call_weight, job_load}
use Rattle.widl_calls.specs.Stack.{CallFollows}

-- 1. The measure

pub step_less : (list : DefsTerm) (f : CallFrame) (j : CallJob) (m m' : CallMove) (fs new : List CallFrame) → m ≡ moves.Steps f j → new ≡ fs ++ f ∷ [] → call_weight list m' ≤ job_load list j → stack_load call_frame_load new + call_weight list m' < stack_load call_frame_load fs + call_weight list m
step_less list f j m m' fs new is is_new less =
    let a : stack_load call_frame_load new ≡ stack_load call_frame_load fs + call_frame_load f = ap (stack_load call_frame_load) is_new ∙ load_push call_frame_load fs f in
    let b : call_weight list m ≡ 1 + call_frame_load f + job_load list j = ap (call_weight list) is in
    omega (arith, a, b, less)

pub go_less : (list : DefsTerm) (j : CallJob) (m m' : CallMove) (fs : List CallFrame) → m ≡ moves.Goes j → call_weight list m' ≤ job_load list j → stack_load call_frame_load fs + call_weight list m' < stack_load call_frame_load fs + call_weight list m
go_less list j m m' fs is less =
    let b : call_weight list m ≡ 1 + job_load list j = ap (call_weight list) is in
    omega (arith, b, less)

pub give_less : (list : DefsTerm) (f : CallFrame) (r : Ending) (m m' : CallMove) (old fs : List CallFrame) → m ≡ moves.Gives r → old ≡ fs ++ f ∷ [] → call_weight list m' < call_frame_load f + given_load (end_of r) → stack_load call_frame_load fs + call_weight list m' < stack_load call_frame_load old + call_weight list m
give_less list f r m m' old fs is is_old less =
    let a : stack_load call_frame_load old ≡ stack_load call_frame_load fs + call_frame_load f = ap (stack_load call_frame_load) is_old ∙ load_push call_frame_load fs f in
    let b : call_weight list m ≡ given_load (end_of r) = ap (call_weight list) is in
    omega (arith, a, b, less)

-- 2. The way

module _ {list : DefsTerm} {steps : StepsOf} where
  pub at_move : {d : CallTalk} {bound : ℕ} {m m' : CallMove} {fs : List CallFrame} → CallFollows list steps d bound m fs → m ≡ m' → CallFollows list steps d bound m' fs
  at_move {d = d} {bound = bound} {fs = fs} follows e = subst (λ (x : CallMove). CallFollows list steps d bound x fs) e follows

  pub stepped : {d : CallTalk} {bound : ℕ} {m m' : CallMove} {f : CallFrame} {j : CallJob} {fs new : List CallFrame} → CallFollows list steps d bound m fs → m ≡ moves.Steps f j → new ≡ fs ++ f ∷ [] → CallLeads list steps (call_rule calls_built_today list steps (call_job_of list steps j)) (call_dialog list steps m') → call_weight list m' ≤ job_load list j → CallFollows list steps d bound m' new
  stepped {m = m} {m' = m'} {f = f} {j = j} {fs = fs} {new = new} follows is is_new leads less =
      let down = step_less list f j m m' fs new is is_new less in
      record { place = stacking.stepped (call_rule calls_built_today list steps) Fits (call_returned_to list steps) f fs new (at_move follows is).place is_new leads; less = omega (arith, down, follows.less) }

  pub went : {d : CallTalk} {bound : ℕ} {m m' : CallMove} {j : CallJob} {fs : List CallFrame} → CallFollows list steps d bound m fs → m ≡ moves.Goes j → CallLeads list steps (call_rule calls_built_today list steps (call_job_of list steps j)) (call_dialog list steps m') → call_weight list m' ≤ job_load list j → CallFollows list steps d bound m' fs
  went {m = m} {m' = m'} {j = j} {fs = fs} follows is leads less =
      let down = go_less list j m m' fs is less in
      record { place = stacking.went (call_rule calls_built_today list steps) Fits (call_returned_to list steps) fs (at_move follows is).place leads; less = omega (arith, down, follows.less) }

  pub gave : {d : CallTalk} {bound : ℕ} {m m' : CallMove} {r : Ending} {old fs : List CallFrame} (f : CallFrame) → CallFollows list steps d bound m old → m ≡ moves.Gives r → old ≡ fs ++ f ∷ [] → call_dialog list steps m' ≡ call_returned_to list steps f (end_of r) → call_weight list m' < call_frame_load f + given_load (end_of r) → CallFollows list steps d bound m' fs
  gave {m = m} {m' = m'} {r = r} {old = old} {fs = fs} f follows is is_old is_move less =
      let down = give_less list f r m m' old fs is is_old less in
      record { place = stacking.gave (call_rule calls_built_today list steps) Fits (call_returned_to list steps) f old fs (end_of r) (at_move follows is).place is_old (here (call_rule calls_built_today list steps) Fits (sym is_move)); less = omega (arith, down, follows.less) }

  -- a task that has ended with its first move: its frame is never put on the others
  pub ended : {d : CallTalk} {bound : ℕ} {m m' : CallMove} {f : CallFrame} {j : CallJob} {r : Ending} {fs : List CallFrame} → CallFollows list steps d bound (moves.Steps f j) fs → CallLeads list steps (call_rule calls_built_today list steps (call_job_of list steps j)) (call_dialog list steps m) → call_weight list m ≤ job_load list j → m ≡ moves.Gives r → call_dialog list steps m' ≡ call_returned_to list steps f (end_of r) → call_weight list m' < call_frame_load f + given_load (end_of r) → CallFollows list steps d bound m' fs
  ended {f = f} follows leads less is is_next less_next = gave f (stepped follows refl refl leads less) is refl is_next less_next

pub end_less : (list : DefsTerm) (f : CallFrame) (j : CallJob) (r : Ending) (m m' : CallMove) (fs : List CallFrame) → call_weight list m ≤ job_load list j → m ≡ moves.Gives r → call_weight list m' < call_frame_load f + given_load (end_of r) → stack_load call_frame_load fs + call_weight list m' < stack_load call_frame_load fs + call_weight list (moves.Steps f j)
end_less list f j r m m' fs less is less_next =
    let b : call_weight list m ≡ given_load (end_of r) = ap (call_weight list) is in
    omega (arith, b, less, less_next)

pub ended_for : (list : DefsTerm) (steps : StepsOf) (f : CallFrame) (j : CallJob) (r : Ending) (m : CallMove) (fs : List CallFrame) (result : Result CallMove AllocError) → CallLeads list steps (call_rule calls_built_today list steps (call_job_of list steps j)) (call_dialog list steps m) → call_weight list m ≤ job_load list j → m ≡ moves.Gives r → IfOk result (λ m'. call_dialog list steps m' ≡ call_returned_to list steps f (end_of r)) → IfOk result (λ m'. call_weight list m' < call_frame_load f + given_load (end_of r))
    → IfOk result (λ m'. (d : CallTalk) (bound : ℕ) → CallFollows list steps d bound (moves.Steps f j) fs → CallFollows list steps d bound m' fs)
ended_for list steps f j r m fs (Ok m') leads less is is_next less_next = λ d bound follows. ended follows leads less is is_next less_next
ended_for list steps f j r m fs (Err none) leads less is is_next less_next = tt

pub end_less_for : (list : DefsTerm) (f : CallFrame) (j : CallJob) (r : Ending) (m : CallMove) (fs : List CallFrame) (result : Result CallMove AllocError) → call_weight list m ≤ job_load list j → m ≡ moves.Gives r → IfOk result (λ m'. call_weight list m' < call_frame_load f + given_load (end_of r))
    → IfOk result (λ m'. stack_load call_frame_load fs + call_weight list m' < stack_load call_frame_load fs + call_weight list (moves.Steps f j))
end_less_for list f j r m fs (Ok m') less is less_next = end_less list f j r m m' fs less is less_next
end_less_for list f j r m fs (Err none) less is less_next = tt
