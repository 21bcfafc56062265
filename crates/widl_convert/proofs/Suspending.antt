-- Each move of a suspended conversation leads on, and leaves less without a charge.
use Rattle.std.proofs.Common.{◌≡◌, ℕ, Bool, ◌+◌, ◌≤◌, ◌<◌, List, [], ◌∷◌, ◌++◌, refl, sym, ap, subst, ◌∙◌, arith}
use Rattle.std.specs.Prelude.{Result, Ok, Err, IfOk}
use Rattle.std.specs.declared.alloc.AllocError.{AllocError}
use Rattle.widl_dialog.specs.Stack.{stack_load}
use Rattle.widl_dialog.proofs.Positions.{at_steps, here}
use Rattle.widl_dialog.proofs.Stacking as stacking
use Rattle.widl_dialog.proofs.Stacking.{load_push}
use Rattle.widl_idl.specs.declared.int_kind.IntKind.{IntKind}
use Rattle.widl_idl.specs.declared.int_kind.Mode.{Mode}
use Rattle.widl_idl.specs.declared.text_kind.TextKind.{TextKind}
use Rattle.widl_idl.specs.DefinitionTerms.{DefsTerm}
use Rattle.widl_idl.specs.Terms.{IntegerType, StringType}
use Rattle.widl_value.specs.declared.number.Number.{Number}
use Rattle.widl_value.specs.declared.value.Value.TheVariants as values
use Rattle.widl_scalar.specs.Scalars.{integer_of}
use Rattle.widl_steps.specs.AskTerms.{Fits}
use Rattle.widl_steps.specs.Built.{built_today}
use Rattle.widl_steps.specs.Rules.{rule}
use Rattle.widl_steps.specs.Scalars.{convert, integer_result, string_result}
use Rattle.widl_steps.specs.Tasks.{TaskEnd, Gives, Plain, Picks, Throw, Rethrow, Profile, Talk}
use Rattle.widl_convert.specs.declared.frames.Frame.{Frame}
use Rattle.widl_convert.specs.declared.jobs.Job.{Job}
use Rattle.widl_convert.specs.declared.moves.Ending.{Ending}
use Rattle.widl_convert.specs.declared.moves.Move.{Move}
use Rattle.widl_convert.specs.declared.moves.Move.TheVariants as moves
use Rattle.widl_convert.specs.Frames.{end_of, job_of, move_dialog, returned_to}
use Rattle.widl_convert.specs.Loads.{end_load, frame_load, given_load, load, weight}
use Rattle.widl_convert.specs.Stack.{Follows, Leads}

-- 0. Over one list

pub over_list : (list : DefsTerm) (d e : Talk) (r : Result Move AllocError) → d ≡ e → IfOk r (λ m. (l : DefsTerm) → move_dialog l m ≡ d) → IfOk r (λ m. move_dialog list m ≡ e)
over_list list d e (Ok m) same x = x list ∙ same
over_list list d e (Err none) same x = tt

-- 1. The measure

pub step_less : (list : DefsTerm) (f : Frame) (j : Job) (m m' : Move) (fs new : List Frame) → m ≡ moves.Steps f j → new ≡ fs ++ f ∷ [] → weight list m' ≤ load list (job_of list j) → stack_load (frame_load list) new + weight list m' < stack_load (frame_load list) fs + weight list m
step_less list f j m m' fs new is is_new less =
    let a : stack_load (frame_load list) new ≡ stack_load (frame_load list) fs + frame_load list f = ap (stack_load (frame_load list)) is_new ∙ load_push (frame_load list) fs f in
    let b : weight list m ≡ 1 + frame_load list f + load list (job_of list j) = ap (weight list) is in
    omega (arith, a, b, less)

pub go_less : (list : DefsTerm) (j : Job) (m m' : Move) (fs : List Frame) → m ≡ moves.Goes j → weight list m' ≤ load list (job_of list j) → stack_load (frame_load list) fs + weight list m' < stack_load (frame_load list) fs + weight list m
go_less list j m m' fs is less =
    let b : weight list m ≡ 1 + load list (job_of list j) = ap (weight list) is in
    omega (arith, b, less)

pub give_less : (list : DefsTerm) (f : Frame) (r : Ending) (m m' : Move) (old fs : List Frame) → m ≡ moves.Gives r → old ≡ fs ++ f ∷ [] → weight list m' < frame_load list f + end_load (end_of r) → stack_load (frame_load list) fs + weight list m' < stack_load (frame_load list) old + weight list m
give_less list f r m m' old fs is is_old less =
    let a : stack_load (frame_load list) old ≡ stack_load (frame_load list) fs + frame_load list f = ap (stack_load (frame_load list)) is_old ∙ load_push (frame_load list) fs f in
    let b : weight list m ≡ end_load (end_of r) = ap (weight list) is in
    omega (arith, a, b, less)

-- 2. The way

pub at_move : {list : DefsTerm} {d : Talk} {bound : ℕ} {m m' : Move} {fs : List Frame} → Follows list d bound m fs → m ≡ m' → Follows list d bound m' fs
at_move {list = list} {d = d} {bound = bound} {fs = fs} follows e = subst (λ (x : Move). Follows list d bound x fs) e follows

pub led : (list : DefsTerm) {d e : Talk} → e ≡ d → Leads list d e
led list same = here (rule built_today list) Fits (sym same)

pub led_all : (list : DefsTerm) (d : Talk) (r : Result Move AllocError) → IfOk r (λ m. move_dialog list m ≡ d) → IfOk r (λ m. Leads list d (move_dialog list m))
led_all list d (Ok m) same = led list same
led_all list d (Err none) same = tt

-- a Number has its Number at once, and a String its String
pub number_leads : (list : DefsTerm) (kind : IntKind) (mode : Mode) (n : Number) → Leads list (convert built_today list (IntegerType kind mode) (values.Num n)) (integer_result (integer_of n kind mode))
number_leads list kind mode n = at_steps (rule built_today list) Fits

pub text_leads : (list : DefsTerm) (kind : TextKind) (null_empty : Bool) (units : List ℕ) → Leads list (convert built_today list (StringType kind null_empty) (values.Str units)) (string_result kind units)
text_leads list kind null_empty units = at_steps (rule built_today list) Fits

pub stepped : {list : DefsTerm} {d : Talk} {bound : ℕ} {m m' : Move} {f : Frame} {j : Job} {fs new : List Frame} → Follows list d bound m fs → m ≡ moves.Steps f j → new ≡ fs ++ f ∷ [] → Leads list (rule built_today list (job_of list j)) (move_dialog list m') → weight list m' ≤ load list (job_of list j) → Follows list d bound m' new
stepped {list = list} {m = m} {m' = m'} {f = f} {j = j} {fs = fs} {new = new} follows is is_new leads less =
    let down = step_less list f j m m' fs new is is_new less in
    record { place = stacking.stepped (rule built_today list) Fits (returned_to list) f fs new (at_move follows is).place is_new leads; less = omega (arith, down, follows.less) }

pub went : {list : DefsTerm} {d : Talk} {bound : ℕ} {m m' : Move} {j : Job} {fs : List Frame} → Follows list d bound m fs → m ≡ moves.Goes j → Leads list (rule built_today list (job_of list j)) (move_dialog list m') → weight list m' ≤ load list (job_of list j) → Follows list d bound m' fs
went {list = list} {m = m} {m' = m'} {j = j} {fs = fs} follows is leads less =
    let down = go_less list j m m' fs is less in
    record { place = stacking.went (rule built_today list) Fits (returned_to list) fs (at_move follows is).place leads; less = omega (arith, down, follows.less) }

pub gave : {list : DefsTerm} {d : Talk} {bound : ℕ} {m m' : Move} {r : Ending} {old fs : List Frame} (f : Frame) → Follows list d bound m old → m ≡ moves.Gives r → old ≡ fs ++ f ∷ [] → move_dialog list m' ≡ returned_to list f (end_of r) → weight list m' < frame_load list f + end_load (end_of r) → Follows list d bound m' fs
gave {list = list} {m = m} {m' = m'} {r = r} {old = old} {fs = fs} f follows is is_old is_move less =
    let down = give_less list f r m m' old fs is is_old less in
    record { place = stacking.gave (rule built_today list) Fits (returned_to list) f old fs (end_of r) (at_move follows is).place is_old (led list is_move); less = omega (arith, down, follows.less) }

-- a task that has ended with its first move: its frame is never put on the others
pub ended : {list : DefsTerm} {d : Talk} {bound : ℕ} {m m' : Move} {f : Frame} {j : Job} {r : Ending} {fs : List Frame} → Follows list d bound (moves.Steps f j) fs → Leads list (rule built_today list (job_of list j)) (move_dialog list m) → weight list m ≤ load list (job_of list j) → m ≡ moves.Gives r → move_dialog list m' ≡ returned_to list f (end_of r) → weight list m' < frame_load list f + end_load (end_of r) → Follows list d bound m' fs
ended {f = f} follows leads less is is_next less_next = gave f (stepped follows refl refl leads less) is refl is_next less_next

pub end_less : (list : DefsTerm) (f : Frame) (j : Job) (r : Ending) (m m' : Move) (fs : List Frame) → weight list m ≤ load list (job_of list j) → m ≡ moves.Gives r → weight list m' < frame_load list f + end_load (end_of r) → stack_load (frame_load list) fs + weight list m' < stack_load (frame_load list) fs + weight list (moves.Steps f j)
end_less list f j r m m' fs less is less_next =
    let b : weight list m ≡ end_load (end_of r) = ap (weight list) is in
    omega (arith, b, less, less_next)

pub ended_for : (list : DefsTerm) (f : Frame) (j : Job) (r : Ending) (m : Move) (fs : List Frame) (result : Result Move AllocError) → Leads list (rule built_today list (job_of list j)) (move_dialog list m) → weight list m ≤ load list (job_of list j) → m ≡ moves.Gives r → IfOk result (λ m'. move_dialog list m' ≡ returned_to list f (end_of r)) → IfOk result (λ m'. weight list m' < frame_load list f + end_load (end_of r))
    → IfOk result (λ m'. (d : Talk) (bound : ℕ) → Follows list d bound (moves.Steps f j) fs → Follows list d bound m' fs)
ended_for list f j r m fs (Ok m') leads less is is_next less_next = λ d bound follows. ended follows leads less is is_next less_next
ended_for list f j r m fs (Err none) leads less is is_next less_next = tt

pub end_less_for : (list : DefsTerm) (f : Frame) (j : Job) (r : Ending) (m : Move) (fs : List Frame) (result : Result Move AllocError) → weight list m ≤ load list (job_of list j) → m ≡ moves.Gives r → IfOk result (λ m'. weight list m' < frame_load list f + end_load (end_of r))
    → IfOk result (λ m'. stack_load (frame_load list) fs + weight list m' < stack_load (frame_load list) fs + weight list (moves.Steps f j))
end_less_for list f j r m fs (Ok m') less is less_next = end_less list f j r m m' fs less is less_next
end_less_for list f j r m fs (Err none) less is less_next = tt

-- 3. The end

given_within : (r : TaskEnd) → given_load r ≤ end_load r
given_within (Gives w) = omega arith
given_within (Plain v) = omega arith
given_within (Picks overload ws) = omega arith
given_within (Throw reason) = omega arith
given_within (Rethrow v) = omega arith
given_within (Profile n) = omega arith

pub given_last : {list : DefsTerm} {d : Talk} {bound : ℕ} {m : Move} {r : Ending} {fs : List Frame} → Follows list d bound m fs → m ≡ moves.Gives r → given_load (end_of r) ≤ bound
given_last {list = list} {m = m} {r = r} follows is =
    let b : weight list m ≡ end_load (end_of r) = ap (weight list) is in
    omega (arith, b, given_within (end_of r), follows.less)
