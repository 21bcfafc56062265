-- The lines of a text, and the line and column of a byte.
use Rattle.std.specs.Prelude.{◌≡◌, ℕ, ◌+◌, ◌<◌, List, [], ◌∷◌, length, take, get_or, count_by, nat_eq, if◌then◌else◌}

abbrev pub put_before : ℕ → List (List ℕ) → List (List ℕ)
put_before b [] = (b ∷ []) ∷ []
put_before b (piece ∷ pieces) = (b ∷ piece) ∷ pieces

-- what stands before the first LF, between each two, and after the last
abbrev pub pieces_of : List ℕ → List (List ℕ)
pieces_of [] = [] ∷ []
pieces_of (b ∷ text) = if nat_eq b 10 then [] ∷ pieces_of text else put_before b (pieces_of text)

-- the bytes without a CR at their end
abbrev pub without_return : List ℕ → List ℕ
without_return [] = []
without_return (b ∷ []) = if nat_eq b 13 then [] else b ∷ []
without_return (b ∷ c ∷ piece) = b ∷ without_return (c ∷ piece)

-- a line is such a piece; a CR directly before an LF doesn't count, and one at the end of the last line does
abbrev pub lines_of_pieces : List (List ℕ) → List (List ℕ)
lines_of_pieces [] = []
lines_of_pieces (piece ∷ []) = piece ∷ []
lines_of_pieces (piece ∷ next ∷ pieces) = without_return piece ∷ lines_of_pieces (next ∷ pieces)

unfoldable pub lines_of : List ℕ → List (List ℕ)
lines_of text = lines_of_pieces (pieces_of text)

-- the number of the line in which the byte at the place stands, from 1
abbrev pub line_number : List ℕ → ℕ → ℕ
line_number text at = 1 + count_by (λ b. nat_eq b 10) (take at text)

-- the column of what comes after the bytes, the first of which has this column
abbrev pub column_after : ℕ → List ℕ → ℕ
column_after column [] = column
column_after column (b ∷ text) = column_after (if nat_eq b 10 then 1 else column + 1) text

-- the column of the byte at the place in its line, from 1
abbrev pub column_number : List ℕ → ℕ → ℕ
column_number text at = column_after 1 (take at text)

-- only for contracts of code: no LF stands below the place, and the first LF stands at it
abbrev pub NoLineEnd : List ℕ → ℕ → Type 0
NoLineEnd text at = (k : ℕ) → k < at → get_or text k 0 ≡ 10 → ⊥

abbrev pub IsLineEnd : List ℕ → ℕ → Type 0
IsLineEnd text at = (at < length text) × (get_or text at 0 ≡ 10) × NoLineEnd text at
