-- For proofs alone. What private functions say of the answers that they write.
use Rattle.std.specs.Prelude.{◌≡◌, ◌≢◌, ◌⊎◌, ℕ, ◌≤◌, List, [], Option, length}
use Rattle.widl_text.specs.Limits.{most_file_bytes}
use Rattle.widl_top.specs.Requests.{IsWithin}
use Rattle.widl_top.specs.declared.request.Command.TheVariants as commands
use Rattle.std.specs.Io.KnownBytes.{append_known}
use Rattle.widl_sink.specs.Causes.{Rose}
use Rattle.widl_sink.specs.Growth.{GrewByPrefix}
use Rattle.widl_folder.specs.declared.whole_file.FetchError.{FetchError}
use Rattle.widl_folder.specs.declared.whole_file.FetchError.TheVariants.{Memory, Missing, Failed, TooLong}
use Rattle.widl_idl.specs.MergedSets.{MergedSet}
use Rattle.widl_top.specs.Output.{Output, last}
use Rattle.widl_top.specs.Outputs.{IsRunOutput, accepted_output, fault_line, long_line, missing_line, sets_output}
use Rattle.widl_top.specs.declared.status.Status.{Status}
use Rattle.widl_top.specs.declared.status.Status.TheVariants as ends
use Rattle.widl_top.specs.declared.task.Task.{Task}
use Rattle.widl_top.specs.declared.task.Task.TheVariants as tasks

-- what is written where a file wasn't read
abbrev pub unread_output : FetchError → List ℕ → Output
unread_output (Memory e) name = record { bytes = []; status = ends.Memory }
unread_output Missing name = last (missing_line name) ends.Missing
unread_output Failed name = last (fault_line name) ends.ReadFault
unread_output TooLong name = last (long_line name) ends.TooLong

-- the output was written whole, or a write failed, or memory was short and this is known then
pub record AnswersOr (Short : Type 0) (output : Output) (old new : Option (List ℕ)) (before now : ℕ) (result : Status) : Type 0 where
  pub later : before ≤ now
  pub status : result ≢ ends.Memory → result ≢ ends.WriteFault → result ≡ output.status
  pub wrote : result ≢ ends.Memory → result ≢ ends.WriteFault → new ≡ append_known old output.bytes
  pub rose : result ≡ ends.WriteFault → Rose before now
  pub kept : result ≢ ends.WriteFault → now ≡ before
  pub torn : result ≡ ends.WriteFault → GrewByPrefix old new output.bytes
  pub short : result ≡ ends.Memory → Short

-- where memory was short, nothing was written
abbrev pub Answers : (output : Output) → (old new : Option (List ℕ)) → (before now : ℕ) → (result : Status) → Type 0
Answers output old new before now result = AnswersOr (new ≡ old) output old new before now result

-- where memory was short, a part was written
abbrev pub AnswersPartly : (output : Output) → (old new : Option (List ℕ)) → (before now : ℕ) → (result : Status) → Type 0
AnswersPartly output old new before now result = AnswersOr (GrewByPrefix old new output.bytes) output old new before now result

-- what a task writes for an accepted set
abbrev pub IsTaskOutput : Task → MergedSet → Output → Type 0
IsTaskOutput tasks.Check set output = output ≡ accepted_output set
IsTaskOutput tasks.Sets set output = output ≡ sets_output set
IsTaskOutput (tasks.Run budget script) set output = IsRunOutput budget script.items set output

-- an output like this was written, whole or in part, or memory was short before there was one
abbrev pub Answered : (Output → Type 0) → (old new : Option (List ℕ)) → (before now : ℕ) → Status → Type 0
Answered IsIt old new before now result =
    ((result ≡ ends.Memory) × (new ≡ old) × (now ≡ before)) ⊎ ((output : Output) × IsIt output × AnswersPartly output old new before now result)

-- the script and the budget are within the limits
abbrev pub CanDo : Task → Type 0
CanDo tasks.Check = Unit {0}
CanDo tasks.Sets = Unit {0}
CanDo (tasks.Run budget script) = (length script.items ≤ most_file_bytes) × IsWithin (commands.Run budget)

-- `check` and `sets` write nothing before all is known
abbrev pub DoesAtOnce : Task → Type 0
DoesAtOnce tasks.Check = Unit {0}
DoesAtOnce tasks.Sets = Unit {0}
DoesAtOnce (tasks.Run budget script) = ⊥
