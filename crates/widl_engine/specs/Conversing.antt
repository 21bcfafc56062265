-- The moves of conversations. No rule names any of it.
use Rattle.std.specs.Prelude.{◌≡◌, Some}
use Rattle.widl_dialog.specs.Dialog.{End, Steps}
use Rattle.widl_script_tree.specs.Tables.{Tables}
use Rattle.widl_steps.specs.AskTerms.{ask_term, kind_of}
use Rattle.widl_steps.specs.Tasks.{Throw, Rethrow, Profile}
use Rattle.widl_steps.specs.Operations.{lines_of}
use Rattle.widl_convert.specs.declared.outcome.Next.{Next}
use Rattle.widl_convert.specs.declared.outcome.Next.TheVariants as next
use Rattle.widl_convert.specs.Frames.{outcome_end}
use Rattle.widl_calls.specs.declared.call_asker.CallAsker.{CallAsker}
use Rattle.widl_calls.specs.Stack.{call_pending, call_rest}
use Rattle.widl_runs.specs.Asks.{in_world}
use Rattle.widl_runs.specs.Ends.{Talked, answer_of}
use Rattle.widl_runs.specs.Jobs.{Program, Asked}
use Rattle.widl_engine.specs.declared.moves.Move.{Move}
use Rattle.widl_engine.specs.Frames.{move_of}

-- where a conversation asks, it waits for the answer
abbrev pub IsWaiting : CallAsker → Next → Type 0
IsWaiting asker (next.Ask ask) = call_pending asker ≡ Some (kind_of (ask_term ask))
IsWaiting asker _ = Unit {0}

-- the move is the ask, after which the conversation goes on, or its end
abbrev pub IsNextMove : Program → Tables → CallAsker → Next → Move → Type 0
IsNextMove p s asker (next.Ask ask) m = move_of p s m ≡ Steps (Asked (ask_term ask)) (λ end. in_world (call_rest p.list (lines_of p.list p.script) asker (answer_of (ask_term ask) end)))
IsNextMove p s asker (next.Done outcome) m = move_of p s m ≡ End (Talked (outcome_end outcome))
IsNextMove p s asker (next.Throw reason) m = move_of p s m ≡ End (Talked (Throw reason))
IsNextMove p s asker (next.Rethrow v) m = move_of p s m ≡ End (Talked (Rethrow v))
IsNextMove p s asker (next.Profile n) m = move_of p s m ≡ End (Talked (Profile n))
IsNextMove p s asker next.Memory m = ⊥
