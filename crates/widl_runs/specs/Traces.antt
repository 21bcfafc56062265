-- Traces: the lines of a script's run, from the initial store to its end.
-- Source: this program's own.
use Rattle.std.specs.Prelude.{◌≡◌, ℕ, ◌-◌, List, [], ◌∷◌, ◌++◌, map}
use Rattle.widl_dialog.specs.Dialog.{End, Say, Steps}
use Rattle.widl_dialog.specs.Runs.{Finish, Ended, Halted, Does}
use Rattle.widl_idl.specs.DefinitionTerms.{DefsTerm}
use Rattle.widl_store.specs.Objects.{StoreState}
use Rattle.widl_store.specs.Realm.{realm_of}
use Rattle.widl_script_tree.specs.Trees.{ScriptTree}
use Rattle.widl_trace.specs.EventTerms.{EventTerm, DoneEvent, UncaughtEvent, BudgetStop, DepthStop, ProfileStop}
use Rattle.widl_trace.specs.EventLines.{line_of}
use Rattle.widl_runs.specs.Ends.{JobEnd, Thrown}
use Rattle.widl_runs.specs.declared.stop.Stop.{Stop}
use Rattle.widl_runs.specs.declared.stop.Stop.TheVariants as stops
use Rattle.widl_runs.specs.Worlds.{World}
use Rattle.widl_runs.specs.Actions.{Write, Reply, act}
use Rattle.widl_runs.specs.Jobs.{Program, RunStatements, Doing}
use Rattle.widl_runs.specs.Rules.{rule}

-- the steps, done in a world, lead to another world and finish so
abbrev pub Run : Program → Doing → World → World → Finish JobEnd Stop → Type 0
Run p = Does (rule p) (act p.list)

-- 1. A whole script

-- the last line, which is paid like any other; the end stays
abbrev pub end_event : JobEnd → EventTerm
end_event (Thrown v) = UncaughtEvent v
end_event _ = DoneEvent

abbrev pub ends_script : JobEnd → Reply → Doing
ends_script c r = End c

abbrev pub last_line : JobEnd → Doing
last_line c = Say (Write (end_event c)) (ends_script c)

-- the statements outside functions, then the last line
abbrev pub whole : Program → Doing
whole p = Steps (RunStatements p.script.top) last_line

-- symbols are numbered from 3: 0, 1 and 2 are `@iterator`, `@toPrimitive` and `@toStringTag`
abbrev pub first_world : StoreState → ℕ → World
first_world store budget = record { store = store; globals = []; next_symbol = 3; lines = []; units = budget; contexts = [] }

-- 2. Its trace

-- how a run ends, as its last line tells it
pub data Ending : Type 0 where
  EndsDone : Ending
  EndsUncaught : Ending
  EndsStopped : Stop → Ending

abbrev pub ending_of : Finish JobEnd Stop → Ending
ending_of (Halted s) = EndsStopped s
ending_of (Ended (Thrown v)) = EndsUncaught
ending_of (Ended _) = EndsDone

abbrev pub stop_event : Stop → EventTerm
stop_event stops.Budget = BudgetStop
stop_event stops.Depth = DepthStop
stop_event (stops.Profile end) = ProfileStop end

-- the line of a stop comes last and is free; where the run stopped at its last line, it stands in place of that
abbrev pub stop_events : Finish JobEnd Stop → List EventTerm
stop_events (Ended c) = []
stop_events (Halted s) = stop_event s ∷ []

-- Over the list of definitions the script, with this budget, has these lines and ends so. Each budget has such a trace.
pub record IsTrace (list : DefsTerm) (script : ScriptTree) (budget : ℕ) (lines : List (List ℕ)) (end : Ending) : Type 0 where
  -- the world in which the run ends, and how it finishes there
  pub world : World
  pub finish : Finish JobEnd Stop
  pub runs : let p : Program = record { list = list; script = script } in Run p (whole p) (first_world (realm_of list) budget) world finish
  pub written : lines ≡ map (line_of list) (world.lines ++ stop_events finish)
  pub ended : end ≡ ending_of finish

-- the store in which the run ends, and the units that it has taken
abbrev pub left_of : {list : DefsTerm} {script : ScriptTree} {budget : ℕ} {lines : List (List ℕ)} {end : Ending} → IsTrace list script budget lines end → StoreState
left_of trace = trace.world.store

abbrev pub taken_in : {list : DefsTerm} {script : ScriptTree} {budget : ℕ} {lines : List (List ℕ)} {end : Ending} → IsTrace list script budget lines end → ℕ
taken_in {budget = budget} trace = budget - trace.world.units
