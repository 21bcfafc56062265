-- The patterns of the pieces of a file.
-- Source: Web IDL, "IDL grammar", the terminals at its end.
use Rattle.std.specs.Prelude.{ℕ, List, [], ◌∷◌, codes}
use Rattle.widl_lex.specs.declared.token.PieceKind.{PieceKind}
use Rattle.widl_lex.specs.declared.token.PieceKind.TheVariants.{Token, Gap}
use Rattle.widl_lex.specs.declared.token.TokenKind.TheVariants.{Quoted, Integer, Decimal, Identifier, Text, Other}
use Rattle.widl_lex.specs.Pattern.{Pattern, Matches, Range, Star, in_row, any_of, word, one_of, plus, optional}
use Rattle.widl_lex.specs.Quoted.{IsQuoted}
use Rattle.widl_lex.specs.Utf8.{two_bytes, three_bytes, four_bytes}

-- [0-9], [0-7], [0-9A-Fa-f], [A-Za-z]
abbrev pub digit : Pattern
digit = Range 0x30 0x39

abbrev pub octal_digit : Pattern
octal_digit = Range 0x30 0x37

abbrev pub hexadecimal_digit : Pattern
hexadecimal_digit = any_of (digit ∷ Range 0x41 0x46 ∷ Range 0x61 0x66 ∷ [])

abbrev pub letter : Pattern
letter = any_of (Range 0x41 0x5A ∷ Range 0x61 0x7A ∷ [])

-- -?([1-9][0-9]*|0[Xx][0-9A-Fa-f]+|0[0-7]*)
abbrev pub integer : Pattern
integer = in_row (optional (word (codes "-")) ∷ any_of (
    in_row (Range 0x31 0x39 ∷ Star digit ∷ []) ∷
    in_row (word (codes "0") ∷ one_of (codes "Xx") ∷ plus hexadecimal_digit ∷ []) ∷
    in_row (word (codes "0") ∷ Star octal_digit ∷ []) ∷ []) ∷ [])

-- [Ee][+-]?[0-9]+
abbrev pub exponent : Pattern
exponent = in_row (one_of (codes "Ee") ∷ optional (one_of (codes "+-")) ∷ plus digit ∷ [])

-- [0-9]+\.[0-9]*|[0-9]*\.[0-9]+
abbrev pub fraction : Pattern
fraction = any_of (
    in_row (plus digit ∷ word (codes ".") ∷ Star digit ∷ []) ∷
    in_row (Star digit ∷ word (codes ".") ∷ plus digit ∷ []) ∷ [])

-- -?(fraction exponent?|[0-9]+ exponent)
abbrev pub decimal : Pattern
decimal = in_row (optional (word (codes "-")) ∷ any_of (
    in_row (fraction ∷ optional exponent ∷ []) ∷
    in_row (plus digit ∷ exponent ∷ []) ∷ []) ∷ [])

-- [_-]?[A-Za-z][0-9A-Z_a-z-]*
abbrev pub identifier : Pattern
identifier = in_row (optional (one_of (codes "_-")) ∷ letter ∷ Star (any_of (digit ∷ letter ∷ one_of (codes "_-") ∷ [])) ∷ [])

-- "[^"]*"
abbrev pub string : Pattern
string = in_row (word (0x22 ∷ []) ∷ Star (any_of (Range 0x00 0x21 ∷ Range 0x23 0xFF ∷ [])) ∷ word (0x22 ∷ []) ∷ [])

-- [\t\n\r ]+
abbrev pub white_space : Pattern
white_space = plus (one_of (0x09 ∷ 0x0A ∷ 0x0D ∷ 0x20 ∷ []))

-- `//` to before the next line feed
abbrev pub line_comment : Pattern
line_comment = in_row (word (codes "//") ∷ Star (any_of (Range 0x00 0x09 ∷ Range 0x0B 0xFF ∷ [])) ∷ [])

-- `/*` to the first `*/`: no byte between is a `/` behind a `*`
abbrev pub block_comment : Pattern
block_comment = in_row (word (codes "/*") ∷
    Star (any_of (
    Range 0x00 0x29 ∷
    Range 0x2B 0xFF ∷
    in_row (plus (word (codes "*")) ∷ any_of (Range 0x00 0x29 ∷ Range 0x2B 0x2E ∷ Range 0x30 0xFF ∷ []) ∷ []) ∷ [])) ∷
    plus (word (codes "*")) ∷ word (codes "/") ∷ [])

-- one character outside [\t\n\r 0-9A-Za-z]
abbrev pub other : Pattern
other = any_of (
    Range 0x00 0x08 ∷ Range 0x0B 0x0C ∷ Range 0x0E 0x1F ∷ Range 0x21 0x2F ∷ Range 0x3A 0x40 ∷ Range 0x5B 0x60 ∷ Range 0x7B 0x7F ∷
    two_bytes ∷ three_bytes ∷ four_bytes ∷ [])

-- the text is a piece of the kind: a quoted terminal, or what the pattern of a token or of a gap matches
abbrev pub IsPiece : PieceKind → List ℕ → Type 0
IsPiece (Token Quoted) text = IsQuoted text
IsPiece (Token Integer) text = Matches integer text
IsPiece (Token Decimal) text = Matches decimal text
IsPiece (Token Identifier) text = Matches identifier text
IsPiece (Token Text) text = Matches string text
IsPiece (Token Other) text = Matches other text
IsPiece Gap text = Matches (any_of (white_space ∷ line_comment ∷ block_comment ∷ [])) text
