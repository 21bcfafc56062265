-- What is written for a script over a list that the engine serves: its first broken rule, or its trace.
-- Source: this program's own.
use Rattle.std.specs.Prelude.{◌≡◌, ℕ, List, ◌++◌, codes, decimal}
use Rattle.widl_idl.specs.DefinitionTerms.{DefsTerm}
use Rattle.widl_lines.specs.declared.script_place.ScriptPlace.{ScriptPlace}
use Rattle.widl_script_tree.specs.Trees.{ScriptTree}
use Rattle.widl_script.specs.Scripts.{IsFirstBreak, IsScriptOf}
use Rattle.widl_runs.specs.Traces.{Ending, EndsDone, EndsStopped, EndsUncaught, IsTrace}
use Rattle.widl_engine.specs.Output.{bytes_of_lines}
use Rattle.widl_engine.specs.declared.runs.End.{End}
use Rattle.widl_engine.specs.declared.runs.End.TheVariants as the_end
use Rattle.widl_top.specs.Output.{Output, last}
use Rattle.widl_top.specs.declared.status.Status.{Status}
use Rattle.widl_top.specs.declared.status.Status.TheVariants as ends

-- `script SRULE LINE COLUMN`
unfoldable pub script_line : ScriptPlace → List ℕ
script_line place = codes "script S" ++ decimal place.rule ++ codes " " ++ decimal place.line ++ codes " " ++ decimal place.column

-- the status of a run whose trace ends so
abbrev pub status_of : Ending → Status
status_of EndsDone = ends.Done
status_of EndsUncaught = ends.Uncaught
status_of (EndsStopped stop) = ends.Stopped

abbrev pub status_of_end : End → Status
status_of_end the_end.Done = ends.Done
status_of_end the_end.Uncaught = ends.Uncaught
status_of_end (the_end.Stopped stop) = ends.Stopped
status_of_end the_end.WriteFault = ends.WriteFault
status_of_end the_end.Memory = ends.Memory

-- the script breaks a rule, and the first is named
pub record IsScriptRefused (list : DefsTerm) (script : List ℕ) (output : Output) : Type 0 where
  pub place : ScriptPlace
  pub first : IsFirstBreak script list place
  pub output_is : output ≡ last (script_line place) ends.ScriptRefused

-- the script breaks no rule, and the lines of its trace are written
pub record IsScriptRun (list : DefsTerm) (script : List ℕ) (budget : ℕ) (output : Output) : Type 0 where
  pub tree : ScriptTree
  pub read : IsScriptOf script list tree
  pub lines : List (List ℕ)
  pub end : Ending
  pub trace : IsTrace list tree budget lines end
  pub output_is : output ≡ record { bytes = bytes_of_lines lines; status = status_of end }

pub data IsScriptOutput (list : DefsTerm) (script : List ℕ) (budget : ℕ) (output : Output) : Type 0 where
  breaks_rule : IsScriptRefused list script output → IsScriptOutput list script budget output
  runs_whole : IsScriptRun list script budget output → IsScriptOutput list script budget output
