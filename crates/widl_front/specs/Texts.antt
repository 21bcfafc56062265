-- The bytes of several files, in order.
use Rattle.std.specs.Prelude.{ℕ, ◌≤◌, List, [], length, slice_index_or}
use Rattle.widl_text.specs.Limits.{most_file_bytes}

-- the bytes at a place, none past the end
abbrev pub named : List (List ℕ) → ℕ → List ℕ
named texts place = slice_index_or texts place []

-- none has more bytes than a file may have
abbrev pub AreShort : List (List ℕ) → Type 0
AreShort texts = (i : ℕ) → length (named texts i) ≤ most_file_bytes
