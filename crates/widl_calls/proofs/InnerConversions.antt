-- A conversion within a call.
use Rattle.std.proofs.Common.{◌≡◌, ℕ, ◌+◌, ◌<◌, ◌≤◌, Option, Some, refl, arith}
use Rattle.std.specs.Prelude.{Result, Ok, Err, IfOk}
use Rattle.std.specs.declared.alloc.AllocError.{AllocError}
use Rattle.widl_dialog.specs.Rename.{rename}
use Rattle.widl_dialog.proofs.Renaming.{at_rename}
use Rattle.widl_idl.specs.DefinitionTerms.{DefsTerm}
use Rattle.widl_steps.specs.AskTerms.{AskKind, AnswerTerm, Fits, IsFree, IsWanted}
use Rattle.widl_steps.specs.Built.{built_today}
use Rattle.widl_steps.specs.Rules.{rule}
use Rattle.widl_steps.specs.Tasks.{Talk}
use Rattle.widl_steps.specs.BuiltCalls.{calls_built_today}
use Rattle.widl_steps.specs.CallRules.{call_rule}
use Rattle.widl_steps.specs.CallTasks.{Of}
use Rattle.widl_steps.specs.Operations.{StepsOf}
use Rattle.widl_convert.specs.declared.asker.Asker.{Asker}
use Rattle.widl_convert.specs.declared.asker.State.{State}
use Rattle.widl_convert.specs.declared.asker.State.TheVariants.{Begins, Waits, Ended}
use Rattle.widl_convert.specs.Stack.{Awaits, Expects, IsQuiet, IsQuietState, Leads, pending, quiet, waiting}
use Rattle.widl_calls.specs.declared.moves.CallMove.{CallMove}
use Rattle.widl_calls.specs.Frames.{CallLeads, call_weight}
use Rattle.widl_calls.specs.Kinds.{kind_at, kind_in}

-- where the tasks of a conversion lead, they lead in the call
pub in_call : (list : DefsTerm) (steps : StepsOf) (d e : Talk) → Leads list d e → CallLeads list steps (rename Of d) (rename Of e)
in_call list steps d e leads = at_rename Of (rule built_today list) (call_rule calls_built_today list steps) Fits (λ t. refl) leads

-- the kind of the ask that is out is the one that the conversion's state tells
pub kind_known : (state : State) (k : AskKind) → waiting state ≡ Some k → waiting state ≡ Some (kind_at state)
kind_known (Begins j) k e = absurd (cc)
kind_known (Waits w) k e = refl
kind_known Ended k e = absurd (cc)

pub kind_is : (state : State) (k : AskKind) → waiting state ≡ Some k → k ≡ kind_at state
kind_is (Begins j) k e = absurd (cc)
kind_is (Waits w) k e = cc
kind_is Ended k e = absurd (cc)

-- an answer of the kind that is waited for is expected
pub awaits_kind : (state : State) (a : AnswerTerm) → waiting state ≡ Some (kind_at state) → IsWanted (kind_at state) a → Awaits state a
awaits_kind (Begins j) a e x = absurd (cc)
awaits_kind (Waits w) a e x = x
awaits_kind Ended a e x = absurd (cc)

-- an ask that takes no charge
pub quiet_kind : (state : State) → IsFree (kind_at state) → IsQuietState state
quiet_kind (Begins j) x = absurd x
quiet_kind (Waits w) x = x
quiet_kind Ended x = absurd x

-- the clause on what is left, under another condition
pub under_free : (list : DefsTerm) (asker : Asker) (r : Result CallMove AllocError) (n : ℕ) → IfOk r (λ m. IsQuiet asker → call_weight list m ≤ n) → IfOk r (λ m. IsFree (kind_in asker) → call_weight list m ≤ n)
under_free list asker (Ok m) n x = λ free. x (quiet_kind asker.state free)
under_free list asker (Err e) n x = tt
