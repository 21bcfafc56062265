-- What a folder's calls do to its counts and to the file that is read.
use Rattle.std.specs.Prelude.{◌≡◌, ℕ, ◌+◌, ◌-◌, ◌^◌, ◌<◌, ◌≤◌, ◌++◌, min, List, length, Option, option_and_then, IfSome, IsSome, IsNone}
use Rattle.std.specs.Io.KnownBytes.{prepend_known}
use Rattle.widl_text.specs.Limits.{most_file_bytes}
use Rattle.widl_sink.specs.Causes.{Rose}
use Rattle.widl_folder.specs.Files.{file_at}
use Rattle.widl_folder.specs.declared.folder.Started.{Started}
use Rattle.widl_folder.specs.declared.folder.Started.TheVariants.{Ready, Missing}

-- a started file is the named one, where the files are told, and a missing one isn't there
pub record TakesUp (files : Option (List (List ℕ × List ℕ))) (name : List ℕ) (result : Started) (left : Option (List ℕ)) : Type 0 where
  pub ready : result ≡ Ready → left ≡ option_and_then (λ told. file_at told name) files
  pub found : result ≡ Ready → IfSome files (λ told. IsSome (file_at told name))
  pub absent : result ≡ Missing → IfSome files (λ told. IsNone (file_at told name))

-- the count never falls, the answer comes only where it rose, and it grows only with this answer
pub record Counts (answer : Type 0) (before now : ℕ) : Type 0 where
  pub later : before ≤ now
  pub rose : answer → Rose before now
  pub kept : (answer → ⊥) → now ≡ before

-- one more, up to the end of the type
abbrev pub next_count : ℕ → ℕ
next_count count = min (count + 1) (2 ^ 64 - 1)

-- where the file is told, it is what was read
abbrev pub IsWhole : Option (List ℕ) → List ℕ → Type 0
IsWhole file bytes = IfSome file (λ told. told ≡ bytes)

-- where the file is told, it has more bytes than are read
abbrev pub IsTooLong : Option (List ℕ) → Type 0
IsTooLong file = IfSome file (λ told. most_file_bytes < length told)

-- some bytes were read from what was left of a file, and added to those that were there
pub record Takes (left_old left_new : Option (List ℕ)) (old new : List ℕ) (count : ℕ) : Type 0 where
  pub got : List ℕ
  pub size : length got ≡ count
  pub front : left_old ≡ prepend_known got left_new
  pub added : new ≡ old ++ got
