-- For proofs alone. Conversations on the stack of a machine: where they begin, and where they go on.
use Rattle.std.proofs.Common.{◌≡◌, [], Some, IfOk, refl, sym, subst}
use Rattle.std.specs.declared.result.Result.{Result}
use Rattle.std.specs.declared.result.Result.TheVariants as results
use Rattle.std.specs.declared.alloc.AllocError.{AllocError}
use Rattle.widl_dialog.specs.Dialog.{End, Say}
use Rattle.widl_dialog.specs.Position.{At}
use Rattle.widl_dialog.proofs.Lifting.{at_lift}
use Rattle.widl_idl.specs.MergedSets.{MergedSet}
use Rattle.widl_script_tree.specs.Tables.{Tables, script_tree}
use Rattle.widl_steps.specs.AskTerms.{AskKind, OfGet, OfCall, OfUnit, OfNote, OfOwnKeys, OfOwn, OfLook, OfNew, OfChange, AnswerTerm, Fits, IsCompletion, IsWanted, ask_term}
use Rattle.widl_steps.specs.Tasks.{Throw, Rethrow, Profile}
use Rattle.widl_convert.specs.declared.outcome.Next.{Next}
use Rattle.widl_convert.specs.declared.outcome.Next.TheVariants as next
use Rattle.widl_convert.specs.Frames.{outcome_end}
use Rattle.widl_steps.specs.BuiltCalls.{calls_built_today}
use Rattle.widl_steps.specs.CallRules.{call_rule}
use Rattle.widl_steps.specs.CallTasks.{CallTalk}
use Rattle.widl_steps.specs.FoundSteps.{steps_over}
use Rattle.widl_steps.specs.Operations.{StepsOf, lines_of}
use Rattle.widl_steps.proofs.CallLawProofs.{tables_find}
use Rattle.widl_calls.specs.declared.call_asker.CallAsker.{CallAsker}
use Rattle.widl_calls.specs.declared.call_asker.CallState.{CallState}
use Rattle.widl_calls.specs.declared.call_asker.CallState.TheVariants.{Begins, Waits, Ended}
use Rattle.widl_calls.specs.Frames.{CallLeads}
use Rattle.widl_calls.specs.Stack.{CallAwaits, CallExpects, CallResumes, call_pending, call_rest, call_waiting}
use Rattle.widl_calls.specs.Waits.{call_kind_for}
use Rattle.widl_runs.specs.Asks.{in_world, ways}
use Rattle.widl_runs.specs.Ends.{JobEnd, Normal, Returned, Thrown, Talked, Seen, answer_by, completion_answer, seen_in}
use Rattle.widl_runs.specs.Jobs.{Program, Doing}
use Rattle.widl_runs.specs.Rules.{rule}
use Rattle.widl_runs.proofs.LiveParts.{shows_look}
use Rattle.widl_engine.specs.Conversing.{IsNextMove, IsWaiting}
use Rattle.widl_engine.specs.declared.moves.Move.{Move}
use Rattle.widl_engine.specs.Frames.{LeadsTo, Wants, list_of, move_of, program_of}
use Rattle.widl_engine.specs.ReadOver.{IsReadOver}

-- 1. The end of an ask's work is an answer that fits

fits_completion : (e : JobEnd) → IsCompletion (completion_answer e)
fits_completion (Normal v) = tt
fits_completion (Returned v) = tt
fits_completion (Thrown v) = tt
fits_completion (Talked end) = tt
fits_completion (Seen answer) = tt

fits : (kind : AskKind) (e : JobEnd) → IsWanted kind (answer_by kind e)
fits OfGet e = fits_completion e
fits OfCall e = fits_completion e
fits OfUnit e = tt
fits OfNote e = tt
fits OfOwnKeys e = tt
fits OfOwn e = tt
fits (OfLook what) e = shows_look what (seen_in e)
fits (OfNew shape) e = refl
fits OfChange e = tt

awaits : (state : CallState) (kind : AskKind) (a : AnswerTerm) → call_waiting state ≡ Some kind → IsWanted kind a → CallAwaits state a
awaits (Begins j) kind a is x = absurd (cc)
awaits (Waits w) kind a is x = let same : call_kind_for w ≡ kind = cc in subst (λ (k : AskKind). IsWanted k a) (sym same) x
awaits Ended kind a is x = absurd (cc)

-- what waits for the answer of an ask expects the answer that its end makes
pub expects : (asker : CallAsker) (kind : AskKind) (a : AnswerTerm) (e : JobEnd) → call_pending asker ≡ Some kind → a ≡ answer_by kind e → CallExpects asker a
expects asker kind a e waits is = awaits asker.state kind a waits (subst (IsWanted kind) (sym is) (fits kind e))

-- 2. In the world of a script

module _ (set : MergedSet) (s : Tables) where
  same_steps : IsReadOver (program_of set s).list s → steps_over set s ≡ lines_of (list_of set) (script_tree s)
  same_steps read = tables_find (list_of set) s read.lines

  abbrev steps : StepsOf
  steps = lines_of (list_of set) (script_tree s)

  leads_in_world : (d e : CallTalk) → CallLeads (list_of set) steps d e → At (rule (program_of set s)) Wants (in_world d) [] (in_world e)
  leads_in_world d e x = at_lift (call_rule calls_built_today (list_of set) steps) Fits ways (rule (program_of set s)) Wants (λ t. refl) x

  leads_end : (d e : CallTalk) (m : Move) → CallLeads (list_of set) steps d e → move_of (program_of set s) s m ≡ in_world e → LeadsTo (program_of set s) s (in_world d) m
  leads_end d e m x is = subst (λ (t : Doing). At (rule (program_of set s)) Wants (in_world d) [] t) (sym is) (leads_in_world d e x)

  leads_next : (d : CallTalk) (asker : CallAsker) (answer : Next) (m : Move) → CallResumes (list_of set) steps d asker answer → IsNextMove (program_of set s) s asker answer m → LeadsTo (program_of set s) s (in_world d) m
  leads_next d asker (next.Ask ask) m x is = leads_end d (Say (ask_term ask) (call_rest (list_of set) steps asker)) m x.1 is
  leads_next d asker (next.Done outcome) m x is = leads_end d (End (outcome_end outcome)) m x is
  leads_next d asker (next.Throw reason) m x is = leads_end d (End (Throw reason)) m x is
  leads_next d asker (next.Rethrow v) m x is = leads_end d (End (Rethrow v)) m x is
  leads_next d asker (next.Profile n) m x is = leads_end d (End (Profile n)) m x is
  leads_next d asker next.Memory m x is = absurd is

  -- what a conversation resumes with is what the machine goes on with
  pub resumed : (old new : CallAsker) (a : AnswerTerm) (answer : Next) (r : Result Move AllocError) → CallResumes (list_of set) (steps_over set s) (call_rest (list_of set) (steps_over set s) old a) new answer → IfOk r (λ m. (p : Program) (t : Tables) → IsNextMove p t new answer m) → IfOk r (λ m. IsReadOver (program_of set s).list s → LeadsTo (program_of set s) s (in_world (call_rest (list_of set) steps old a)) m)
  resumed old new a answer (results.Ok m) x is = λ read. leads_next (call_rest (list_of set) steps old a) new answer m (subst (λ (st : StepsOf). CallResumes (list_of set) st (call_rest (list_of set) st old a) new answer) (same_steps read) x) (is (program_of set s) s)
  resumed old new a answer (results.Err e) x is = tt

-- where a conversation asks, it waits
pub waiting : (set : MergedSet) (s : Tables) (d : CallTalk) (asker : CallAsker) (answer : Next) → CallResumes (list_of set) (steps_over set s) d asker answer → IsWaiting asker answer
waiting set s d asker (next.Ask ask) x = x.0
waiting set s d asker (next.Done outcome) x = tt
waiting set s d asker (next.Throw reason) x = tt
waiting set s d asker (next.Rethrow v) x = tt
waiting set s d asker (next.Profile n) x = tt
waiting set s d asker next.Memory x = tt

-- the same steps lead to the same move
pub leads_same : (set : MergedSet) (s : Tables) (d e : Doing) (r : Result Move AllocError) → d ≡ e → IfOk r (λ m. IsReadOver (program_of set s).list s → LeadsTo (program_of set s) s d m) → IfOk r (λ m. IsReadOver (program_of set s).list s → LeadsTo (program_of set s) s e m)
leads_same set s d e r is x = subst (λ (t : Doing). IfOk r (λ m. IsReadOver (program_of set s).list s → LeadsTo (program_of set s) s t m)) is x
