-- The tokens of a file as clauses see them.
use Rattle.std.specs.Prelude.{◌≡◌, ℕ, ◌+◌, ◌≤◌, List, [], ◌∷◌, ◌++◌, length, take, drop, All, IsUtf8}
use Rattle.widl_text.specs.declared.place.Place.{Place}
use Rattle.widl_lex.specs.declared.token.TokenKind.{TokenKind}
use Rattle.widl_lex.specs.declared.token.Token.{Token}
use Rattle.widl_lex.specs.declared.token.PieceKind.{PieceKind}
use Rattle.widl_lex.specs.declared.token.PieceKind.TheVariants.{Token as OfToken, Gap}
use Rattle.widl_lex.specs.declared.token.TokenKind.TheVariants.{Quoted}
use Rattle.widl_lex.specs.Quoted.{IsQuoted}
use Rattle.widl_lex.specs.Lexical.{IsPiece}
use Rattle.widl_lex.specs.Cut.{Piece, Cut}

-- a token: its kind, the place of its first byte, and its bytes
pub record Lexeme : Type 0 where
  pub kind : TokenKind
  pub at : Place
  pub text : List ℕ

abbrev pub lexeme_of : Token → Lexeme
lexeme_of token = record { kind = token.kind; at = token.at; text = token.text.now }

-- the tokens of a file: the file's number, its length in bytes, and its tokens in order
pub record TokenList : Type 0 where
  pub file : ℕ
  pub end : ℕ
  pub lexemes : List Lexeme

-- the token of a piece at the place, if it is no gap
abbrev pub lexemes_of : Place → PieceKind → List ℕ → List Lexeme
lexemes_of at (OfToken kind) text = record { kind = kind; at = at; text = text } ∷ []
lexemes_of at Gap text = []

-- the tokens among pieces, of which the first stands at the offset
abbrev pub tokens_from : (file offset : ℕ) → List Piece → List Lexeme
tokens_from file offset [] = []
tokens_from file offset ((kind, text) ∷ more) = lexemes_of (record { file = file; at = offset }) kind text ++ tokens_from file (offset + length text) more

-- the tokens are those of a cut of the file
pub record IsCutInto (file : ℕ) (bytes : List ℕ) (lexemes : List Lexeme) : Type 0 where
  pub pieces : List Piece
  pub cut : Cut bytes pieces
  pub tokens_are : lexemes ≡ tokens_from file 0 pieces

pub record AreTokensOf (file : ℕ) (bytes : List ℕ) (tokens : TokenList) : Type 0 where
  pub file_is : tokens.file ≡ file
  pub end_is : tokens.end ≡ length bytes
  pub cut : IsCutInto file bytes tokens.lexemes

-- the token's bytes are those of the file at its place
abbrev pub IsSliceOf : List ℕ → Lexeme → Type 0
IsSliceOf bytes lexeme = lexeme.text ≡ take (length lexeme.text) (drop lexeme.at.at bytes)

-- the tokens stand in the file between two offsets, each behind the one before
abbrev pub InOrder : (offset end : ℕ) → List Lexeme → Type 0
InOrder offset end [] = offset ≤ end
InOrder offset end (lexeme ∷ more) = (offset ≤ lexeme.at.at) × InOrder (lexeme.at.at + length lexeme.text) end more

-- the token stands in the file, and its bytes are a UTF-8 text and a piece of its kind, quoted if they can be
pub record IsSound (file : ℕ) (lexeme : Lexeme) : Type 0 where
  pub file_is : lexeme.at.file ≡ file
  pub piece : IsPiece (OfToken lexeme.kind) lexeme.text
  pub tie : IsQuoted lexeme.text → lexeme.kind ≡ Quoted
  pub utf8 : IsUtf8 lexeme.text

-- what holds of the tokens of each file
pub record AreSound (tokens : TokenList) : Type 0 where
  pub each : All (IsSound tokens.file) tokens.lexemes
  pub in_order : InOrder 0 tokens.end tokens.lexemes
