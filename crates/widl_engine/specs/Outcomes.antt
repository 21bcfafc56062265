-- What a run of a script promises: its trace is emitted and ends so, or a part of it where memory was wanting or the sink failed.
use Rattle.std.specs.Prelude.{◌≡◌, ℕ, ◌≤◌, List, ◌++◌, length}
use Rattle.widl_idl.specs.DefinitionTerms.{DefsTerm}
use Rattle.widl_script_tree.specs.Trees.{ScriptTree}
use Rattle.widl_sink.specs.Causes.{Rose}
use Rattle.widl_runs.specs.Traces.{Ending, EndsDone, EndsUncaught, EndsStopped, IsTrace, taken_in}
use Rattle.widl_engine.specs.declared.runs.Counts.{Counts}
use Rattle.widl_engine.specs.declared.runs.End.{End}
use Rattle.widl_engine.specs.declared.runs.End.TheVariants as ends
use Rattle.widl_engine.specs.Output.{Output, Emits, Tears, bytes_of_lines}

-- the lines of the trace were emitted, and it ends so; the counts are those of its lines and units
pub record IsWhole (list : DefsTerm) (script : ScriptTree) (budget : ℕ) (before after : Output) (end : Ending) (counts : Counts) : Type 0 where
  pub lines : List (List ℕ)
  pub trace : IsTrace list script budget lines end
  pub emitted : Emits before after (bytes_of_lines lines)
  pub events : counts.events ≡ length lines
  pub units : counts.units ≡ taken_in trace

-- the first lines of the trace were emitted
pub record IsFirstPart (list : DefsTerm) (script : ScriptTree) (budget : ℕ) (before after : Output) : Type 0 where
  pub lines : List (List ℕ)
  pub emitted : Emits before after (bytes_of_lines lines)
  pub begins : (all : List (List ℕ)) (end : Ending) → IsTrace list script budget all end → (more : List (List ℕ)) × (all ≡ lines ++ more)

-- the sink failed before it held the whole trace; what it holds grew by a prefix of it
pub record IsTorn (list : DefsTerm) (script : ScriptTree) (budget : ℕ) (before after : Output) : Type 0 where
  pub tears : (all : List (List ℕ)) (end : Ending) → IsTrace list script budget all end → Tears before after (bytes_of_lines all)

abbrev pub RanAs : DefsTerm → ScriptTree → ℕ → Output → Output → End → Counts → Type 0
RanAs list script budget before after ends.Done counts = IsWhole list script budget before after EndsDone counts
RanAs list script budget before after ends.Uncaught counts = IsWhole list script budget before after EndsUncaught counts
RanAs list script budget before after (ends.Stopped stop) counts = IsWhole list script budget before after (EndsStopped stop) counts
RanAs list script budget before after ends.WriteFault counts = IsTorn list script budget before after
RanAs list script budget before after ends.Memory counts = IsFirstPart list script budget before after

-- the count of the sink's faults rose where the run ended for a fault, and nowhere else
abbrev pub FaultsOf : ℕ → ℕ → End → Type 0
FaultsOf before now ends.WriteFault = (before ≤ now) × Rose before now
FaultsOf before now end = now ≡ before
