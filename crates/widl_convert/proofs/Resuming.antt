-- What a suspended conversation answers is what comes next.
use Rattle.std.proofs.Common.{◌≡◌, ◌+◌, ◌<◌, ◌≤◌, List, [], Option, Some, None, sym, ap, subst, ◌∙◌, arith}
use Rattle.widl_dialog.specs.Conversation.{Next, Asks, Ends}
use Rattle.widl_dialog.specs.Dialog.{End, Say, bind}
use Rattle.widl_dialog.specs.Position.{At}
use Rattle.widl_dialog.specs.Stack.{stack_load, under, longer}
use Rattle.widl_dialog.proofs.Bind.{bind_end}
use Rattle.widl_dialog.proofs.Positions.{here, at_bind, at_then, next_ask, next_end}
use Rattle.widl_dialog.proofs.Stacking as stacking
use Rattle.widl_idl.specs.DefinitionTerms.{DefsTerm}
use Rattle.widl_steps.specs.AskTerms.{AskTerm, AskKind, AnswerTerm, BeginAnswer, Fits, IsWanted, ask_term, kind_of}
use Rattle.widl_steps.specs.Built.{built_today}
use Rattle.widl_steps.specs.Laws.{Said}
use Rattle.widl_steps.specs.Rules.{rule}
use Rattle.widl_steps.specs.Tasks.{Task, TaskEnd, Talk}
use Rattle.widl_convert.specs.declared.asker.Asker.{Asker}
use Rattle.widl_convert.specs.declared.asker.State.{State}
use Rattle.widl_convert.specs.declared.asker.State.TheVariants.{Begins, Waits, Ended}
use Rattle.widl_convert.specs.declared.frames.Frame.{Frame}
use Rattle.widl_convert.specs.declared.moves.Asking.{Asking}
use Rattle.widl_convert.specs.declared.moves.Ending.{Ending}
use Rattle.widl_convert.specs.declared.moves.Move.{Move}
use Rattle.widl_convert.specs.declared.outcome.Next.{Next as NextAnswer}
use Rattle.widl_convert.specs.declared.outcome.Next.TheVariants as next
use Rattle.widl_convert.specs.Frames.{after, end_of, move_dialog, outcome_end, returned_to}
use Rattle.widl_convert.specs.Loads.{frame_load, given_load, patience, weight}
use Rattle.widl_convert.specs.Stack.{Awaits, Expects, IsCalmer, IsQuietState, IsReached, IsTold, Leads, Resumes, Stands, Tells, kind_of_last, left, moves_on, next_said, pause, pending, quiet, rest, waiting}
use Rattle.widl_convert.specs.Waits.{kind_for}

-- 1. By what was left

-- what was left leads on by the first move
goes_on : (list : DefsTerm) (old : Asker) (a : AnswerTerm) (m : Move) {state : State} {e : Talk} → state ≡ old.state → Leads list (left list state a) (move_dialog list m) → Leads list (moves_on list m old.frames) e → Leads list (rest list old a) e
goes_on list old a m {state = state} {e = e} same first leads =
    let back = under (returned_to list) old.frames in
    let began : Leads list (rest list old a) (moves_on list m old.frames) =
    subst (λ (s : State). Leads list (bind (left list s a) back) (moves_on list m old.frames)) same (at_bind (rule built_today list) Fits back first) in
    at_then (rule built_today list) Fits began leads

-- it waits for the answer to an ask
pub resumed : (list : DefsTerm) (old new : Asker) (a : AnswerTerm) (m : Move) (p : Asking) (fs : List Frame) (n : NextAnswer) {state : State} → state ≡ old.state → Leads list (left list state a) (move_dialog list m) → Leads list (moves_on list m old.frames) (bind (Say (ask_term p.ask) (after list p.wait)) (under (returned_to list) fs)) → kind_of (ask_term p.ask) ≡ kind_for p.wait → new.state ≡ Waits p.wait → new.frames ≡ fs → n ≡ next.Ask p.ask → Resumes list (rest list old a) new n
resumed list old new a m p fs n same first leads fits is_state is_frames is_next =
    let path : Say (ask_term p.ask) (λ b. bind (after list p.wait b) (under (returned_to list) fs)) ≡ Say (ask_term p.ask) (rest list new) =
    ap (λ (s : State). Say (ask_term p.ask) (λ b. bind (left list s b) (under (returned_to list) fs))) (sym is_state)
    ∙ ap (λ (l : List Frame). Say (ask_term p.ask) (λ b. bind (left list new.state b) (under (returned_to list) l))) (sym is_frames) in
    subst (Resumes list (rest list old a) new) (sym is_next) (
      ap waiting is_state ∙ ap (λ (k : AskKind). let o : Option AskKind = Some k in o) (sym fits),
      at_then (rule built_today list) Fits (goes_on list old a m same first leads) (here (rule built_today list) Fits path),
    )

-- it has ended
pub ended : (list : DefsTerm) (old new : Asker) (a : AnswerTerm) (m : Move) (r : Ending) (n : NextAnswer) {state : State} → state ≡ old.state → Leads list (left list state a) (move_dialog list m) → Leads list (moves_on list m old.frames) (End (end_of r)) → next_said n ≡ Some (Ends (end_of r)) → Resumes list (rest list old a) new n
ended list old new a m r n same first leads is = subst (IsReached list (rest list old a) new) (sym is) (goes_on list old a m same first leads)

-- it asks, and less is left than before
pub calm_at_ask : (list : DefsTerm) (old new : Asker) (m : Move) (p : Asking) (fs : List Frame) (n : NextAnswer) {state : State} → state ≡ old.state → (IsQuietState state → weight list m < pause list state) → stack_load (frame_load list) fs + patience p.wait ≤ stack_load (frame_load list) old.frames + weight list m → new.state ≡ Waits p.wait → new.frames ≡ fs → n ≡ next.Ask p.ask → IsCalmer list old new n
calm_at_ask list old new m p fs n same small less is_state is_frames is_next =
    subst (IsCalmer list old new) (sym is_next) (λ free.
    (let first : weight list m < pause list old.state = subst (λ (s : State). IsQuietState s → weight list m < pause list s) same small free in
    let left_now : quiet list new ≡ stack_load (frame_load list) fs + patience p.wait =
    ap (λ (l : List Frame). stack_load (frame_load list) l + pause list new.state) is_frames ∙ ap (λ (s : State). stack_load (frame_load list) fs + pause list s) is_state in
    omega (arith, left_now, first, less)))

-- it ends, and what comes of a value that is given is less than what was left
pub calm_at_end : (list : DefsTerm) (old new : Asker) (m : Move) (r : Ending) (n : NextAnswer) {state : State} → state ≡ old.state → (IsQuietState state → weight list m < pause list state) → given_load (end_of r) ≤ stack_load (frame_load list) old.frames + weight list m → next_said n ≡ Some (Ends (end_of r)) → IsCalmer list old new n
calm_at_end list old new m r (next.Ask ask) same small less said = absurd (cc)
calm_at_end list old new m r (next.Done outcome) same small less said = λ free.
    (let is : outcome_end outcome ≡ end_of r = cc in
    let given : given_load (outcome_end outcome) ≡ given_load (end_of r) = ap given_load is in
    let first : weight list m < pause list old.state = subst (λ (s : State). IsQuietState s → weight list m < pause list s) same small free in
    omega (arith, given, first, less))
calm_at_end list old new m r (next.Throw reason) same small less said = tt
calm_at_end list old new m r (next.Rethrow v) same small less said = tt
calm_at_end list old new m r (next.Profile k) same small less said = tt
calm_at_end list old new m r next.Memory same small less said = tt

-- the answer that fits what is waited for is expected
pub expects : (asker : Asker) (k : AskKind) (a : AnswerTerm) → pending asker ≡ Some k → IsWanted k a → Expects asker a
expects asker k a waits fits = expects_at asker.state k a waits fits
  where
    expects_at : (state : State) (k : AskKind) (a : AnswerTerm) → waiting state ≡ Some k → IsWanted k a → Awaits state a
    expects_at (Begins j) k a e x = absurd (cc)
    expects_at (Waits w) k a e x = let same : k ≡ kind_for w = cc in subst (λ (o : AskKind). IsWanted o a) same x
    expects_at Ended k a e x = absurd (cc)

-- 2. In the talk of the task

-- an answer that is expected fits the ask that is out
fits_last : (state : State) (last : Option AskTerm) (a : AnswerTerm) → waiting state ≡ kind_of_last last → Awaits state a → (ask : AskTerm) → last ≡ Some ask → Fits ask a
fits_last state None a e x ask is = absurd (cc)
fits_last (Begins j) (Some p) a e x ask is = absurd (cc)
fits_last (Waits w) (Some p) a e x ask is =
    let same : p ≡ ask = cc in
    let kind : kind_for w ≡ kind_of p = cc in
    subst (λ (o : AskTerm). Fits o a) same (subst (λ (k : AskKind). IsWanted k a) kind x)
fits_last Ended (Some p) a e x ask is = absurd x

first_answer : (state : State) (last : Option AskTerm) (a : AnswerTerm) → waiting state ≡ kind_of_last last → Awaits state a → last ≡ None → a ≡ BeginAnswer
first_answer state (Some p) a e x is = absurd (cc)
first_answer (Begins j) None a e x is = x
first_answer (Waits w) None a e x is = absurd (cc)
first_answer Ended None a e x is = absurd x

module _ (list : DefsTerm) (old new : Asker) (a : AnswerTerm) (expected : Expects old a) (task : Task) (said : Said) (last : Option AskTerm) (stands : Stands list old task said last) where
  there : At (rule built_today list) Fits (rule built_today list task) (longer said last a) (rest list old a)
  there =
      stacking.answered (rule built_today list) Fits BeginAnswer said last (rest list old) a stands.place
      (first_answer old.state last a stands.waits expected) (fits_last old.state last a stands.waits expected)

  comes : (n : Option (Next AskTerm TaskEnd)) → IsReached list (rest list old a) new n → IsTold list new task (longer said last a) n
  comes None x = tt
  comes (Some (Asks ask)) x =
      let place = stacking.leads_on (rule built_today list) Fits BeginAnswer (longer said last a) there x.1 in
      (next_ask (rule built_today list) Fits (longer said last a) ask (rest list new) place, record { waits = x.0; place = place })
  comes (Some (Ends r)) x = next_end (rule built_today list) Fits (longer said last a) r (stacking.leads_on (rule built_today list) Fits BeginAnswer (longer said last a) there x)

pub told : (list : DefsTerm) (old new : Asker) (a : AnswerTerm) (n : NextAnswer) → Expects old a → Resumes list (rest list old a) new n → (task : Task) (said : Said) (last : Option AskTerm) → Stands list old task said last → Tells list new task (longer said last a) n
told list old new a n expected resumes task said last stands = comes list old new a expected task said last stands (next_said n) resumes

-- 3. Where it begins

pub all_is_left : (list : DefsTerm) (d : Talk) (fs : List Frame) → fs ≡ [] → bind d (under (returned_to list) fs) ≡ d
all_is_left list d fs none = ap (λ (l : List Frame). bind d (under (returned_to list) l)) none ∙ bind_end d

pub not_begun : (list : DefsTerm) (d : Talk) (fs : List Frame) → fs ≡ [] → At (rule built_today list) Fits d [] (bind d (under (returned_to list) fs))
not_begun list d fs none = here (rule built_today list) Fits (sym (all_is_left list d fs none))
