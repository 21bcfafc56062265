-- What contracts see of the folders in memory, and what their calls do.
use Rattle.std.specs.Prelude.{◌≡◌, ℕ, ◌+◌, ◌-◌, ◌^◌, ◌↔◌, min, List, [], Option, Some, None, drop, length, Contains, IsErr, IfOk, IsOkAnd}
use Rattle.std.specs.declared.result.Result.{Result}
use Rattle.widl_folder.specs.Files.{bytes_at}
use Rattle.widl_folder.specs.declared.folder.Started.{Started}
use Rattle.widl_folder.specs.declared.folder.Started.TheVariants.{Failed}
use Rattle.widl_folder.specs.declared.reading.Reading.{Reading}

-- what is left of the file that is being read
abbrev pub left_of : List (List ℕ × List ℕ) → Option Reading → List ℕ
left_of files None = []
left_of files (Some reading) = drop reading.offset (bytes_at files reading.place)

pub record MemoryFolderState : Type 0 where
  pub files : List (List ℕ × List ℕ)
  pub fails : List ℕ
  pub reading : Option Reading
  pub calls : ℕ
  pub misses : ℕ
  pub faults : ℕ
  pub given : ℕ
  pub starts : ℕ

pub record SureFolderState : Type 0 where
  pub files : List (List ℕ × List ℕ)
  pub reading : Option Reading
  pub misses : ℕ
  pub given : ℕ
  pub starts : ℕ

-- how many bytes a read gives: as many as are left of the file and fit
abbrev pub given_by : List (List ℕ × List ℕ) → Option Reading → ℕ → ℕ
given_by files reading room = min room (length (left_of files reading))

-- the next call, one of those that are to fail
abbrev pub FailsNext : MemoryFolderState → Type 0
FailsNext folder = Contains folder.fails (min (folder.calls + 1) (2 ^ 64 - 1))

-- each call is counted, and which are to fail stays
pub record IsCounted (old new : MemoryFolderState) : Type 0 where
  pub calls : new.calls ≡ min (old.calls + 1) (2 ^ 64 - 1)
  pub listed : new.fails ≡ old.fails

-- a start fails exactly where it is to fail
pub record MemoryStarts (old : MemoryFolderState) (answer : Started) (new : MemoryFolderState) : Type 0 where
  pub failed : (answer ≡ Failed) ↔ FailsNext old
  pub counted : IsCounted old new

-- a read fails exactly where it is to fail, and otherwise gives as much as it can
pub record MemoryReads {E : Type 0} (old : MemoryFolderState) (room : ℕ) (result : Result ℕ E) (new : MemoryFolderState) : Type 0 where
  pub failed : IsErr result ↔ FailsNext old
  pub given : IfOk result (λ count. count ≡ given_by old.files old.reading room)
  pub counted : IsCounted old new

-- no start fails
abbrev pub SureStarts : Started → Type 0
SureStarts answer = answer ≡ Failed → ⊥

-- no read fails, and each gives as much as it can
abbrev pub SureReads : {E : Type 0} → SureFolderState → ℕ → Result ℕ E → Type 0
SureReads old room result = IsOkAnd result (λ count. count ≡ given_by old.files old.reading room)
