-- For proofs alone. The walk through the table of states, and what its patterns match.
use Rattle.std.specs.Prelude.{ℕ, ◌<◌, ◌≤◌, List, [], ◌∷◌, Bool, true, false, Option, Some, None, ◌+◌, ◌*◌, ◌/◌, ◌%◌, map, slice_index, slice_index_or, length, take, codes}
use Rattle.widl_lex.specs.declared.tables.TheConstants.{NEXT, ENDS, UTF8_CLASSES, UTF8_NEXT, QUOTED, QUOTED_AT, SIGNS}
use Rattle.widl_lex.specs.declared.token.PieceKind.{PieceKind}
use Rattle.widl_lex.specs.declared.token.PieceKind.TheVariants.{Token, Gap}
use Rattle.widl_lex.specs.declared.token.TokenKind.TheVariants.{Quoted, Integer, Decimal, Identifier, Text, Other}
use Rattle.widl_lex.specs.Pattern.{Pattern, Matches, any_of, word}
use Rattle.widl_lex.specs.Lexical.{integer, decimal, identifier, string, other, white_space, line_comment, block_comment}

-- the state after a byte
abbrev pub next_of : ℕ → ℕ → ℕ
next_of state byte = slice_index_or (slice_index_or NEXT state []) byte 0

-- the kind that ends in a state
abbrev pub end_of : ℕ → Option PieceKind
end_of state = slice_index_or ENDS state None

-- the state of UTF-8 after a byte
abbrev pub utf8_next_of : ℕ → ℕ → ℕ
utf8_next_of state byte = slice_index_or (slice_index_or UTF8_NEXT state []) (slice_index_or UTF8_CLASSES byte 0) 0

-- the pattern of each kind in the table: of the quoted terminals it has the one that no other pattern matches
abbrev pub scanned : PieceKind → Pattern
scanned (Token Quoted) = word (codes "...")
scanned (Token Integer) = integer
scanned (Token Decimal) = decimal
scanned (Token Identifier) = identifier
scanned (Token Text) = string
scanned (Token Other) = other
scanned Gap = any_of (white_space ∷ line_comment ∷ block_comment ∷ [])

-- the first n bytes match the kind's pattern, and no more bytes match any
pub record IsLongestScan (kind : PieceKind) (n : ℕ) (text : List ℕ) : Type 0 where
  pub within : n ≤ length text
  pub some : 0 < n
  pub scan : Matches (scanned kind) (take n text)
  pub longest : (m : ℕ) (other : PieceKind) → n < m → m ≤ length text → Matches (scanned other) (take m text) → ⊥

-- no bytes at the front match
abbrev pub NoScan : List ℕ → Type 0
NoScan text = (m : ℕ) (kind : PieceKind) → 0 < m → m ≤ length text → Matches (scanned kind) (take m text) → ⊥

-- whether a quoted terminal may be scanned as the kind
abbrev pub may_be_quoted : PieceKind → Bool
may_be_quoted (Token Quoted) = true
may_be_quoted (Token Identifier) = true
may_be_quoted (Token Other) = true
may_be_quoted _ = false

-- whether the byte is a quoted terminal with which no longer piece begins
abbrev pub is_sign : ℕ → Bool
is_sign byte = slice_index_or SIGNS byte false

-- what ends at a place, or else the best so far
abbrev pub better_of : Option (ℕ × PieceKind) → ℕ → Option PieceKind → Option (ℕ × PieceKind)
better_of best place (Some kind) = Some (place, kind)
better_of best place None = best

-- the slot of a text among those of the quoted terminals
abbrev pub slot_of : List ℕ → ℕ
slot_of text = (slice_index text 0 + 11 * (slice_index text (length text / 3) + slice_index text (length text / 2))) % 512

-- the quoted terminal in the table that a text can be
abbrev pub candidate_of : List ℕ → List ℕ
candidate_of text = slice_index_or (map (λ word. word.now) QUOTED) (slice_index QUOTED_AT (slot_of text)) []
