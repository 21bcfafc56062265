-- What a word of a script is for, and what it stands for.
-- Source: this program's own.
use Rattle.std.specs.Prelude.{ℕ, suc, ◌-◌, ◌^◌, min, List, [], Bool, true, false, ℤ, pos, negsuc, neg_ℤ, unwrap_or}
use Rattle.widl_text.specs.IntegerTokens.{magnitude, integer_of}
use Rattle.widl_value.specs.declared.number.Number.{Number}
use Rattle.widl_value.specs.Rounding.{nearest_of}
use Rattle.widl_lines.specs.declared.grammar.Terminal.{Terminal}
use Rattle.widl_lines.specs.declared.grammar.Terminal.TheVariants as terminal
use Rattle.widl_lines.specs.Texts.{units_of}
use Rattle.widl_lines.specs.Words.{Lexeme}

-- a word of letters that the language lists
abbrev pub is_listed_word : Terminal → Bool
is_listed_word terminal.Name = false
is_listed_word terminal.UnderscoredName = false
is_listed_word terminal.DashedName = false
is_listed_word terminal.Natural = false
is_listed_word terminal.Negative = false
is_listed_word terminal.OtherInteger = false
is_listed_word terminal.Text = false
is_listed_word terminal.Equals = false
is_listed_word terminal.OpenParen = false
is_listed_word terminal.CloseParen = false
is_listed_word terminal.Comma = false
is_listed_word terminal.Dot = false
is_listed_word terminal.OpenBracket = false
is_listed_word terminal.CloseBracket = false
is_listed_word terminal.MinusInfinity = false
is_listed_word terminal.IteratorSymbol = false
is_listed_word terminal.ToPrimitiveSymbol = false
is_listed_word terminal.ToStringTagSymbol = false
is_listed_word terminal.OpenBrace = false
is_listed_word terminal.CloseBrace = false
is_listed_word terminal.NumberSign = false
is_listed_word terminal.Unknown = false
is_listed_word _ = true

-- a name of a script: the words that only targets and step lines use are names too
abbrev pub is_name : Terminal → Bool
is_name terminal.Name = true
is_name terminal.UnderscoredName = true
is_name terminal.Arg = true
is_name terminal.Slot = true
is_name terminal.Literal = true
is_name terminal.Invoke = true
is_name terminal.Append = true
is_name terminal.Clear = true
is_name terminal.Static = true
is_name terminal.Constructor = true
is_name terminal.ToString = true
is_name _ = false

-- a name behind a dot: any word of letters
abbrev pub is_any_name : Terminal → Bool
is_any_name terminal.Name = true
is_any_name terminal.UnderscoredName = true
is_any_name t = is_listed_word t

-- an identifier of Web IDL in a target or after `slot`
abbrev pub is_target_name : Terminal → Bool
is_target_name terminal.Name = true
is_target_name terminal.DashedName = true
is_target_name t = is_listed_word t

-- the name of an operation that isn't static: before a `#` the word `constructor` is none
abbrev pub is_operation_name : Terminal → Bool
is_operation_name terminal.Constructor = false
is_operation_name t = is_target_name t

-- `0`, or digits of which the first isn't 0, and such digits after a `-`
abbrev pub is_whole : Terminal → Bool
is_whole terminal.Natural = true
is_whole terminal.Negative = true
is_whole _ = false

-- an integer of Web IDL
abbrev pub is_integer : Terminal → Bool
is_integer terminal.OtherInteger = true
is_integer t = is_whole t

-- an integer, or the nearest one of magnitude 2 to the 64. A rule on form keeps each integer of a script below that, those of literals too
abbrev pub within_bound : ℤ → ℤ
within_bound (pos n) = pos (min n (2 ^ 64))
within_bound (negsuc n) = neg_ℤ (pos (min (suc n) (2 ^ 64)))

-- the Number of an integer: the nearest one
abbrev pub number_of : Lexeme → Number
number_of w = nearest_of (within_bound (integer_of w.text))

-- the integer of a literal
abbrev pub integer_in : Lexeme → ℤ
integer_in w = integer_of w.text

-- the number of an argument or an overload, or the greatest one of 32 bits. No callee has so many arguments or overloads, so whoever names one above breaks the same rules as with that
abbrev pub index_of : Lexeme → ℕ
index_of w = min (magnitude w.text) (2 ^ 32 - 1)

-- the units of a text. A word of another form has none, but that is no text of a script
abbrev pub units_in : Lexeme → List ℕ
units_in w = unwrap_or (units_of w.form w.text) []
