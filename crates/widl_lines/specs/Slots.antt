-- For proofs alone. How the code finds a listed word.
use Rattle.std.specs.Prelude.{ℕ, ◌+◌, ◌*◌, ◌/◌, ◌%◌, ◌-◌, List, [], length, get_or, slice_index}
use Rattle.widl_lines.specs.declared.grammar.Terminal.{Terminal}
use Rattle.widl_lines.specs.declared.grammar.Terminal.TheVariants.{Unknown}
use Rattle.widl_lines.specs.ListedWords.{listed_words}

abbrev pub slot_of : List ℕ → ℕ
slot_of text = (slice_index text 0 + slice_index text (length text / 2) + slice_index text (length text - 1) + 38 * (length text % 16)) % 256

-- the listed word of a number
abbrev pub listed_at : ℕ → List ℕ × Terminal
listed_at number = get_or listed_words number ([], Unknown)
