-- A line of the trace: its cost in units, and the bytes that are written for it.
use Rattle.std.specs.Prelude.{ℕ, ◌+◌, ◌/◌, List, [], ◌∷◌, ◌++◌, length}

-- one unit, and one more for each 64 whole bytes
abbrev pub line_cost : List ℕ → ℕ
line_cost line = 1 + length line / 64

-- the line and its line feed
abbrev pub ended : List ℕ → List ℕ
ended line = line ++ 10 ∷ []
