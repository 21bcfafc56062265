-- What comes of reading some named files, one after the other.
use Rattle.std.specs.Prelude.{◌≡◌, ℕ, ◌≤◌, zero, suc, nat_lt, List, [], ◌∷◌, ◌++◌, length, Option, Some, None, if◌then◌else◌}
use Rattle.widl_folder.specs.Files.{file_at}
use Rattle.widl_folder.specs.Folders.{next_count}
use Rattle.widl_folder.specs.declared.whole_file.FetchError.{FetchError}
use Rattle.widl_folder.specs.declared.whole_file.FetchError.TheVariants.{Memory, Missing, Failed, TooLong}
use Rattle.widl_text.specs.Limits.{most_file_bytes}
use Rattle.widl_front.specs.Texts.{named}
use Rattle.widl_top.specs.declared.unread.Unread.{Unread}

-- the bytes of all files, or the name of the first one that isn't there or is too long
pub data Reading : Type 0 where
  AllRead : List (List ℕ) → Reading
  MissingFile : List ℕ → Reading
  LongFile : List ℕ → Reading

-- these bytes come first
abbrev pub with_texts : List (List ℕ) → Reading → Reading
with_texts texts (AllRead more) = AllRead (texts ++ more)
with_texts texts (MissingFile name) = MissingFile name
with_texts texts (LongFile name) = LongFile name

-- a file that is not too long is read, and then come the others
abbrev pub file_then : List ℕ → Option (List ℕ) → Reading → Reading
file_then name None others = MissingFile name
file_then name (Some bytes) others = if nat_lt most_file_bytes (length bytes) then LongFile name else with_texts (bytes ∷ []) others

abbrev pub read_in_order : List (List ℕ × List ℕ) → List (List ℕ) → Reading
read_in_order files [] = AllRead []
read_in_order files (name ∷ names) = file_then name (file_at files name) (read_in_order files names)

-- reading stopped at the file that an argument names
abbrev pub StopsFor : FetchError → List ℕ → Reading → Type 0
StopsFor (Memory e) name reading = Unit {0}
StopsFor Failed name reading = Unit {0}
StopsFor Missing name reading = reading ≡ MissingFile name
StopsFor TooLong name reading = reading ≡ LongFile name

abbrev pub StopsAt : Reading → List (List ℕ) → Unread → Type 0
StopsAt reading words unread = StopsFor unread.cause (named words unread.place) reading

-- the number of starts after some more
abbrev pub starts_after : ℕ → ℕ → ℕ
starts_after before zero = before
starts_after before (suc more) = next_count (starts_after before more)

-- one file was read, and its bytes were added to those of the others
pub record Reads (files : Option (List (List ℕ × List ℕ))) (name : List ℕ) (old new : List (List ℕ)) : Type 0 where
  pub bytes : List ℕ
  pub added : new ≡ old ++ bytes ∷ []
  pub short : length bytes ≤ most_file_bytes
  pub told : (told : List (List ℕ × List ℕ)) → files ≡ Some told → (others : Reading) → file_then name (file_at told name) others ≡ with_texts (bytes ∷ []) others

-- one file was not read
abbrev pub StopsHere : Option (List (List ℕ × List ℕ)) → List ℕ → FetchError → Type 0
StopsHere files name cause = (told : List (List ℕ × List ℕ)) → files ≡ Some told → (others : Reading) → StopsFor cause name (file_then name (file_at told name) others)

abbrev pub IsMemory : FetchError → Type 0
IsMemory (Memory e) = Unit {0}
IsMemory Missing = ⊥
IsMemory Failed = ⊥
IsMemory TooLong = ⊥
