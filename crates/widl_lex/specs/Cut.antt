-- The cut of a text into longest pieces.
-- Source: Web IDL, "IDL grammar": a token is the longest possible match, and a quoted terminal wins a tie.
use Rattle.std.specs.Prelude.{◌≡◌, ℕ, ◌<◌, ◌≤◌, List, [], ◌∷◌, ◌++◌, length, take}
use Rattle.widl_lex.specs.declared.token.PieceKind.{PieceKind}
use Rattle.widl_lex.specs.declared.token.PieceKind.TheVariants.{Token}
use Rattle.widl_lex.specs.declared.token.TokenKind.TheVariants.{Quoted}
use Rattle.widl_lex.specs.Lexical.{IsPiece}
use Rattle.widl_lex.specs.Quoted.{IsQuoted}

-- the first n bytes are a piece of the kind, no more bytes are a piece, and a quoted terminal counts as such
pub record Longest (kind : PieceKind) (n : ℕ) (text : List ℕ) : Type 0 where
  pub within : n ≤ length text
  pub some : 0 < n
  pub piece : IsPiece kind (take n text)
  pub longest : (m : ℕ) (other : PieceKind) → n < m → m ≤ length text → IsPiece other (take m text) → ⊥
  pub tie : IsQuoted (take n text) → kind ≡ Token Quoted

-- the first n bytes are the longest piece, of some kind
abbrev pub IsLongestLength : ℕ → List ℕ → Type 0
IsLongestLength n text = (kind : PieceKind) × Longest kind n text

-- a piece of a text: its kind and its bytes
abbrev pub Piece : Type 0
Piece = PieceKind × List ℕ

-- the pieces put together are the text, and each is the longest at its place
pub data Cut : List ℕ → List Piece → Type 0 where
  none : Cut [] []
  next : {text : List ℕ} {more : List Piece} (kind : PieceKind) (n : ℕ) (rest : List ℕ) → Longest kind n text → text ≡ take n text ++ rest → Cut rest more → Cut text ((kind, take n text) ∷ more)

-- the text has a cut, and every cut of it is that one
pub record HasOneCut (text : List ℕ) : Type 0 where
  pub pieces : List Piece
  pub cut : Cut text pieces
  pub only : (others : List Piece) → Cut text others → others ≡ pieces
