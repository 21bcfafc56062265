-- Where a whole run begins, and where it stands. No rule names it.
use Rattle.std.specs.Prelude.{◌≡◌, ℕ, ◌-◌, ◌≤◌, List, [], ◌++◌, length, map, None}
use Rattle.widl_dialog.specs.Runs.{Finish, Ended, Halted}
use Rattle.widl_script_tree.specs.Tables.{Tables}
use Rattle.widl_store.specs.Objects.{StoreState}
use Rattle.widl_trace.specs.EventLines.{line_of}
use Rattle.widl_trace.specs.EventTerms.{EventTerm}
use Rattle.widl_runs.specs.Ends.{JobEnd}
use Rattle.widl_runs.specs.declared.stop.Stop.{Stop}
use Rattle.widl_runs.specs.Jobs.{Program}
use Rattle.widl_runs.specs.Traces.{Run, whole, first_world}
use Rattle.widl_runs.specs.Worlds.{World}
use Rattle.widl_engine.specs.declared.machine.Machine.{Machine}
use Rattle.widl_engine.specs.declared.machine.Way.{Way}
use Rattle.widl_engine.specs.declared.machine.Way.TheVariants as way
use Rattle.widl_engine.specs.declared.runs.Counts.{Counts}
use Rattle.widl_runs.specs.Fitting.{KeepsFitting}
use Rattle.widl_engine.specs.Frames.{job_end_of}
use Rattle.widl_engine.specs.Machine.{still, world}
use Rattle.widl_engine.specs.Output.{Output, Emits, Tears, bytes_of_lines}

-- a machine that has done nothing; the symbols of a script are numbered from 3
pub record IsFresh (m : Machine) (budget : ℕ) : Type 0 where
  pub frames : m.frames.items ≡ []
  pub globals : m.place.globals ≡ []
  pub symbol : m.place.next_symbol ≡ 3
  pub here : m.place.here ≡ None
  pub outer : m.place.outer.items ≡ []
  pub taken : m.taken ≡ 0
  pub limit : m.budget ≡ budget

-- the bytes of the lines of events
abbrev pub bytes_of_events : Program → List EventTerm → List ℕ
bytes_of_events p events = bytes_of_lines (map (line_of p.list) events)

-- a whole run from a store with a budget
abbrev pub WholeRun : Program → StoreState → ℕ → World → Finish JobEnd Stop → Type 0
WholeRun p start budget = Run p (whole p) (first_world start budget)

-- where a run stands: its lines so far were emitted, so many, and a run from here is a whole one
pub record Stands (p : Program) (s : Tables) (start : StoreState) (budget : ℕ) (before : Output) (t : StoreState) (m : Machine) (after : Output) (number : ℕ) : Type 0 where
  pub limit : m.budget ≡ budget
  pub paid : m.taken ≤ budget
  pub events : List EventTerm
  pub emitted : Emits before after (bytes_of_events p events)
  pub count : number ≡ length events
  pub few : length events ≤ m.taken
  pub leads : (v : World) (f : Finish JobEnd Stop) → Run p (still p s m) (world s t m budget events) v f → WholeRun p start budget v f
  pub fits : KeepsFitting p (still p s m) (world s t m budget events)

-- the whole run finishes so; its lines were emitted, and the counts are those of its lines and units
pub record Finished (p : Program) (start : StoreState) (budget : ℕ) (before after : Output) (f : Finish JobEnd Stop) (counts : Counts) : Type 0 where
  pub world : World
  pub runs : WholeRun p start budget world f
  pub emitted : Emits before after (bytes_of_events p world.lines)
  pub events : counts.events ≡ length world.lines
  pub units : counts.units ≡ budget - world.units
  pub few : counts.events ≤ budget

-- the lines that were emitted are the first of the whole run
pub record Begun (p : Program) (start : StoreState) (budget : ℕ) (before after : Output) : Type 0 where
  pub events : List EventTerm
  pub emitted : Emits before after (bytes_of_events p events)
  pub begins : (v : World) (f : Finish JobEnd Stop) → WholeRun p start budget v f → (more : List EventTerm) × (v.lines ≡ events ++ more)

-- the sink failed before it held all lines of the whole run
pub record Broken (p : Program) (start : StoreState) (budget : ℕ) (before after : Output) : Type 0 where
  pub tears : (v : World) (f : Finish JobEnd Stop) → WholeRun p start budget v f → Tears before after (bytes_of_events p v.lines)

-- what has become of the whole run
abbrev pub Became : Program → StoreState → ℕ → Output → Output → Way → Counts → Type 0
Became p start budget before after (way.Ended c) counts = Finished p start budget before after (Ended (job_end_of c)) counts
Became p start budget before after (way.Stopped stop) counts = Finished p start budget before after (Halted stop) counts
Became p start budget before after way.WriteFault counts = Broken p start budget before after
Became p start budget before after way.Memory counts = Begun p start budget before after
