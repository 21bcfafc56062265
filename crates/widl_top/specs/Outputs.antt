-- What is written for the arguments of a command line over given files, and the status.
use Rattle.std.specs.Prelude.{◌≡◌, ℕ, List, ◌++◌, drop, Option, Some, None, codes}
use Rattle.std.specs.Io.KnownBytes.{append_known}
use Rattle.widl_sink.specs.Growth.{GrewByPrefix}
use Rattle.widl_idl.specs.DefinitionTerms.{defs_term}
use Rattle.widl_idl.specs.MergedSets.{MergedSet}
use Rattle.widl_convert.specs.Served.{IsServed}
use Rattle.widl_sets.specs.Listing.{all_lines}
use Rattle.widl_front.specs.Findings.{finding_line}
use Rattle.widl_top.specs.Readings.{Reading, AllRead, MissingFile, LongFile, read_in_order}
use Rattle.widl_front.specs.Texts.{named}
use Rattle.widl_top.specs.Output.{Output, last}
use Rattle.widl_top.specs.Requests.{request_of, names_of}
use Rattle.widl_top.specs.ScriptOutputs.{IsScriptOutput}
use Rattle.widl_top.specs.declared.help.TheConstants.{HELP, VERSION}
use Rattle.widl_top.specs.declared.request.Request as requests
use Rattle.widl_top.specs.declared.request.Request.TheVariants.{Help, Version, OverFiles}
use Rattle.widl_top.specs.declared.request.Command.{Command}
use Rattle.widl_top.specs.declared.request.Command.TheVariants.{Check, Sets, Run}
use Rattle.widl_top.specs.declared.status.Status.{Status}
use Rattle.widl_top.specs.declared.status.Status.TheVariants as ends
use Rattle.widl_front.specs.declared.verdict.Verdict.{Verdict}
use Rattle.widl_front.specs.declared.verdict.Verdict.TheVariants.{Fault, Broken, Accepted}
use Rattle.widl_front.specs.Verdicts.{IsVerdict, refusal_line}

unfoldable pub missing_line : List ℕ → List ℕ
missing_line name = codes "missing " ++ name

unfoldable pub long_line : List ℕ → List ℕ
long_line name = codes "too long " ++ name

unfoldable pub fault_line : List ℕ → List ℕ
fault_line name = codes "read fault " ++ name

-- what is written for an accepted set by `check`, and by `sets`
abbrev pub accepted_output : MergedSet → Output
accepted_output set = last (codes "accepted") ends.Done

abbrev pub sets_output : MergedSet → Output
sets_output set = record { bytes = all_lines (defs_term set.defs); status = ends.Done }

-- what is written for an accepted set over which scripts can't be run yet
abbrev pub later_output : Output
later_output = last (codes "refused later 0 0") ends.Refused

-- what is written for an accepted set by `run` with a budget and a script
pub data IsRunOutput (budget : ℕ) (script : List ℕ) (set : MergedSet) (output : Output) : Type 0 where
  served : IsServed (defs_term set.defs) → IsScriptOutput (defs_term set.defs) script budget output → IsRunOutput budget script set output
  not_served : (IsServed (defs_term set.defs) → ⊥) → output ≡ later_output → IsRunOutput budget script set output

-- what is found is named; of an accepted set other things are written
abbrev pub IsOutputOf : Verdict → (MergedSet → Output → Type 0) → Output → Type 0
IsOutputOf (Fault finding) Others output = output ≡ last (finding_line finding) ends.Refused
IsOutputOf (Broken refusal) Others output = output ≡ last (refusal_line refusal) ends.Refused
IsOutputOf (Accepted set) Others output = Others set output

-- what is written for fragments, with what is written for each accepted set
pub record IsVerdictOutput (fragments : List (List ℕ)) (Others : MergedSet → Output → Type 0) (output : Output) : Type 0 where
  pub verdict : Verdict
  pub verdict_is : IsVerdict fragments verdict
  pub output_is : IsOutputOf verdict Others output

-- the fragments are all texts; for `run` the first text is the script, and the others are the fragments
abbrev pub IsCommandOutput : Command → List (List ℕ) → Output → Type 0
IsCommandOutput Check texts output = IsVerdictOutput texts (λ set o. o ≡ accepted_output set) output
IsCommandOutput Sets texts output = IsVerdictOutput texts (λ set o. o ≡ sets_output set) output
IsCommandOutput (Run budget) texts output = IsVerdictOutput (drop 1 texts) (IsRunOutput budget (named texts 0)) output

-- the first file that isn't there or is too long is named
abbrev pub IsReadingOutput : (List (List ℕ) → Output → Type 0) → Reading → Output → Type 0
IsReadingOutput P (AllRead texts) output = P texts output
IsReadingOutput P (MissingFile name) output = output ≡ last (missing_line name) ends.Missing
IsReadingOutput P (LongFile name) output = output ≡ last (long_line name) ends.TooLong

abbrev pub IsRequestOutput : Option requests.Request → Reading → Output → Type 0
IsRequestOutput None reading output = output ≡ last (codes "usage") ends.Usage
IsRequestOutput (Some Help) reading output = output ≡ last HELP.now ends.Done
IsRequestOutput (Some Version) reading output = output ≡ last VERSION.now ends.Done
IsRequestOutput (Some (OverFiles command)) reading output = IsReadingOutput (IsCommandOutput command) reading output

-- the order of causes: the arguments; the files in the order of reading; the encoding of the fragments; their
-- grammar; the rules of the profile, of merging and of validity; whether the set is served; the rules on the script; the run
unfoldable pub IsOutput : List (List ℕ) → List (List ℕ × List ℕ) → Output → Type 0
IsOutput words files output = IsRequestOutput (request_of words) (read_in_order files (names_of (request_of words) words)) output

-- an output was written whole, and this is its status
pub record Writes (IsIt : Output → Type 0) (old new : Option (List ℕ)) (result : Status) : Type 0 where
  pub output : Output
  pub is : IsIt output
  pub status : result ≡ output.status
  pub bytes : new ≡ append_known old output.bytes

-- a prefix of an output was written
pub record WritesPart (IsIt : Output → Type 0) (old new : Option (List ℕ)) : Type 0 where
  pub output : Output
  pub is : IsIt output
  pub part : GrewByPrefix old new output.bytes
