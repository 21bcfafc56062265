-- What a suspended call answers is what comes next.
use Rattle.std.proofs.Common.{◌≡◌, ◌+◌, ◌≤◌, ◌<◌, List, [], Option, Some, None, sym, ap, subst, ◌∙◌, arith}
use Rattle.widl_dialog.specs.Conversation.{Next, Asks, Ends}
use Rattle.widl_dialog.specs.Dialog.{End, Say, bind}
use Rattle.widl_dialog.specs.Position.{At}
use Rattle.widl_dialog.specs.Stack.{under, stack_load, longer}
use Rattle.widl_dialog.proofs.Bind.{bind_end}
use Rattle.widl_dialog.proofs.Positions.{here, at_then, at_bind, next_ask, next_end}
use Rattle.widl_dialog.proofs.Stacking as stacking
use Rattle.widl_idl.specs.DefinitionTerms.{DefsTerm}
use Rattle.widl_steps.specs.AskTerms.{AskTerm, AskKind, AnswerTerm, BeginAnswer, Fits, IsWanted, ask_term, kind_of}
use Rattle.widl_steps.specs.Laws.{Said}
use Rattle.widl_steps.specs.Tasks.{TaskEnd}
use Rattle.widl_steps.specs.BuiltCalls.{calls_built_today}
use Rattle.widl_steps.specs.CallRules.{call_rule}
use Rattle.widl_steps.specs.CallTasks.{CallTask, CallTalk}
use Rattle.widl_steps.specs.Operations.{StepsOf}
use Rattle.widl_convert.specs.declared.moves.Ending.{Ending}
use Rattle.widl_convert.specs.declared.outcome.Next.{Next as NextAnswer}
use Rattle.widl_convert.specs.declared.outcome.Next.TheVariants as next
use Rattle.widl_convert.specs.Frames.{end_of}
use Rattle.widl_convert.specs.Stack.{kind_of_last, next_said}
use Rattle.widl_calls.specs.declared.call_asker.CallAsker.{CallAsker}
use Rattle.widl_calls.specs.declared.call_asker.CallState.{CallState}
use Rattle.widl_calls.specs.declared.call_asker.CallState.TheVariants.{Begins, Waits, Ended}
use Rattle.widl_calls.specs.declared.frames.CallFrame.{CallFrame}
use Rattle.widl_calls.specs.declared.moves.CallAsking.{CallAsking}
use Rattle.widl_calls.specs.declared.moves.CallMove.{CallMove}
use Rattle.widl_calls.specs.Frames.{CallLeads, call_after, call_dialog, call_frame_load, call_patience, call_returned_to, call_weight}
use Rattle.widl_calls.specs.Stack.{CallAwaits, CallExpects, CallIsReached, CallIsTold, CallResumes, CallStands, CallTells, IsCallCalmer, IsCallQuiet, IsCallQuietState, call_left, call_moves_on, call_pause, call_pending, call_quiet, call_rest, call_waiting}
use Rattle.widl_calls.specs.Waits.{call_kind_for}

-- 1. By what was left

module _ (list : DefsTerm) (steps : StepsOf) where
  -- what was left leads on by the first move
  pub goes_on : (old : CallAsker) (a : AnswerTerm) (m : CallMove) {state : CallState} {e : CallTalk} → state ≡ old.state → CallLeads list steps (call_left list steps state a) (call_dialog list steps m) → CallLeads list steps (call_moves_on list steps m old.frames.items) e → CallLeads list steps (call_rest list steps old a) e
  goes_on old a m {state = state} {e = e} same first leads =
      let back = under (call_returned_to list steps) old.frames.items in
      let began : CallLeads list steps (call_rest list steps old a) (call_moves_on list steps m old.frames.items) =
      subst (λ (s : CallState). CallLeads list steps (bind (call_left list steps s a) back) (call_moves_on list steps m old.frames.items)) same (at_bind (call_rule calls_built_today list steps) Fits back first) in
      at_then (call_rule calls_built_today list steps) Fits began leads

  -- it waits for the answer to an ask
  pub resumed : (old new : CallAsker) (a : AnswerTerm) (m : CallMove) (p : CallAsking) (fs : List CallFrame) (n : NextAnswer) {state : CallState} → state ≡ old.state → CallLeads list steps (call_left list steps state a) (call_dialog list steps m) → CallLeads list steps (call_moves_on list steps m old.frames.items) (bind (Say (ask_term p.ask) (call_after list steps p.wait)) (under (call_returned_to list steps) fs)) → kind_of (ask_term p.ask) ≡ call_kind_for p.wait → new.state ≡ Waits p.wait → new.frames.items ≡ fs → n ≡ next.Ask p.ask → CallResumes list steps (call_rest list steps old a) new n
  resumed old new a m p fs n same first leads fits is_state is_frames is_next =
      let path : Say (ask_term p.ask) (λ b. bind (call_after list steps p.wait b) (under (call_returned_to list steps) fs)) ≡ Say (ask_term p.ask) (call_rest list steps new) =
      ap (λ (s : CallState). Say (ask_term p.ask) (λ b. bind (call_left list steps s b) (under (call_returned_to list steps) fs))) (sym is_state)
      ∙ ap (λ (l : List CallFrame). Say (ask_term p.ask) (λ b. bind (call_left list steps new.state b) (under (call_returned_to list steps) l))) (sym is_frames) in
      subst (CallResumes list steps (call_rest list steps old a) new) (sym is_next) (
        ap call_waiting is_state ∙ ap (λ (k : AskKind). let o : Option AskKind = Some k in o) (sym fits),
        at_then (call_rule calls_built_today list steps) Fits (goes_on old a m same first leads) (here (call_rule calls_built_today list steps) Fits path),
      )

  -- it has ended
  pub ended : (old new : CallAsker) (a : AnswerTerm) (m : CallMove) (r : Ending) (n : NextAnswer) {state : CallState} → state ≡ old.state → CallLeads list steps (call_left list steps state a) (call_dialog list steps m) → CallLeads list steps (call_moves_on list steps m old.frames.items) (End (end_of r)) → next_said n ≡ Some (Ends (end_of r)) → CallResumes list steps (call_rest list steps old a) new n
  ended old new a m r n same first leads is = subst (CallIsReached list steps (call_rest list steps old a) new) (sym is) (goes_on old a m same first leads)

-- less is left where no charge was taken
pub calmed : (list : DefsTerm) (old new : CallAsker) (m : CallMove) (p : CallAsking) (fs : List CallFrame) (n : NextAnswer) {state : CallState} → state ≡ old.state → (IsCallQuietState state → call_weight list m < call_pause list state) → stack_load call_frame_load fs + call_patience list p.wait ≤ stack_load call_frame_load old.frames.items + call_weight list m → new.state ≡ Waits p.wait → new.frames.items ≡ fs → n ≡ next.Ask p.ask → IsCallCalmer list old new n
calmed list old new m p fs n {state = state} same small less is_state is_frames is_next =
    let all : IsCallQuiet old → call_quiet list new < call_quiet list old = λ (free : IsCallQuiet old).
    (let first : call_weight list m < call_pause list state = small (subst (λ (s : CallState). IsCallQuietState s) (sym same) free) in
    let a : call_pause list state ≡ call_pause list old.state = ap (call_pause list) same in
    let b : call_pause list new.state ≡ call_patience list p.wait = ap (call_pause list) is_state in
    let c : stack_load call_frame_load new.frames.items ≡ stack_load call_frame_load fs = ap (stack_load call_frame_load) is_frames in
    omega (arith, first, a, b, c, less)) in
    subst (IsCallCalmer list old new) (sym is_next) all

-- the answer that fits what is waited for is expected
pub call_expects : (asker : CallAsker) (k : AskKind) (a : AnswerTerm) → call_pending asker ≡ Some k → IsWanted k a → CallExpects asker a
call_expects asker k a waits fits = expects_at asker.state k a waits fits
  where
    expects_at : (state : CallState) (k : AskKind) (a : AnswerTerm) → call_waiting state ≡ Some k → IsWanted k a → CallAwaits state a
    expects_at (Begins j) k a e x = absurd (cc)
    expects_at (Waits w) k a e x = let same : k ≡ call_kind_for w = cc in subst (λ (o : AskKind). IsWanted o a) same x
    expects_at Ended k a e x = absurd (cc)

-- 2. In the talk of the task

-- an answer that is expected fits the ask that is out
fits_last : (state : CallState) (last : Option AskTerm) (a : AnswerTerm) → call_waiting state ≡ kind_of_last last → CallAwaits state a → (ask : AskTerm) → last ≡ Some ask → Fits ask a
fits_last state None a e x ask is = absurd (cc)
fits_last (Begins j) (Some p) a e x ask is = absurd (cc)
fits_last (Waits w) (Some p) a e x ask is =
    let same : p ≡ ask = cc in
    let kind : call_kind_for w ≡ kind_of p = cc in
    subst (λ (o : AskTerm). Fits o a) same (subst (λ (k : AskKind). IsWanted k a) kind x)
fits_last Ended (Some p) a e x ask is = absurd x

first_answer : (state : CallState) (last : Option AskTerm) (a : AnswerTerm) → call_waiting state ≡ kind_of_last last → CallAwaits state a → last ≡ None → a ≡ BeginAnswer
first_answer state (Some p) a e x is = absurd (cc)
first_answer (Begins j) None a e x is = x
first_answer (Waits w) None a e x is = absurd (cc)
first_answer Ended None a e x is = absurd x

module _ (list : DefsTerm) (steps : StepsOf) (old new : CallAsker) (a : AnswerTerm) (expected : CallExpects old a) (task : CallTask) (said : Said) (last : Option AskTerm) (stands : CallStands list steps old task said last) where
  there : At (call_rule calls_built_today list steps) Fits (call_rule calls_built_today list steps task) (longer said last a) (call_rest list steps old a)
  there =
      stacking.answered (call_rule calls_built_today list steps) Fits BeginAnswer said last (call_rest list steps old) a stands.place
      (first_answer old.state last a stands.waits expected) (fits_last old.state last a stands.waits expected)

  comes : (n : Option (Next AskTerm TaskEnd)) → CallIsReached list steps (call_rest list steps old a) new n → CallIsTold list steps new task (longer said last a) n
  comes None x = tt
  comes (Some (Asks ask)) x =
      let place = stacking.leads_on (call_rule calls_built_today list steps) Fits BeginAnswer (longer said last a) there x.1 in
      (next_ask (call_rule calls_built_today list steps) Fits (longer said last a) ask (call_rest list steps new) place, record { waits = x.0; place = place })
  comes (Some (Ends r)) x = next_end (call_rule calls_built_today list steps) Fits (longer said last a) r (stacking.leads_on (call_rule calls_built_today list steps) Fits BeginAnswer (longer said last a) there x)

pub told : (list : DefsTerm) (steps : StepsOf) (old new : CallAsker) (a : AnswerTerm) (n : NextAnswer) → CallExpects old a → CallResumes list steps (call_rest list steps old a) new n → (task : CallTask) (said : Said) (last : Option AskTerm) → CallStands list steps old task said last → CallTells list steps new task (longer said last a) n
told list steps old new a n expected resumes task said last stands = comes list steps old new a expected task said last stands (next_said n) resumes

-- 3. Where it begins

pub all_is_left : (list : DefsTerm) (steps : StepsOf) (d : CallTalk) (fs : List CallFrame) → fs ≡ [] → bind d (under (call_returned_to list steps) fs) ≡ d
all_is_left list steps d fs none = ap (λ (l : List CallFrame). bind d (under (call_returned_to list steps) l)) none ∙ bind_end d

pub not_begun : (list : DefsTerm) (steps : StepsOf) (d : CallTalk) (fs : List CallFrame) → fs ≡ [] → At (call_rule calls_built_today list steps) Fits d [] (bind d (under (call_returned_to list steps) fs))
not_begun list steps d fs none = here (call_rule calls_built_today list steps) Fits (sym (all_is_left list steps d fs none))
