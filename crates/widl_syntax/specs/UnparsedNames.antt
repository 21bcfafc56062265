-- The signs of names, extended attributes and literals.
use Rattle.std.specs.List.{list_any}
use Rattle.std.specs.Prelude.{nat_eq, not, ℕ, Bool, true, false, Option, None, Some, List, [], ◌∷◌, ◌++◌, if◌then◌else◌, map}
use Rattle.std.specs.Global.{Box}
use Rattle.widl_idl.specs.declared.tree.extended_attributes.ExtendedAttribute.{ExtendedAttribute}
use Rattle.widl_idl.specs.declared.tree.extended_attributes.SourceToken.{SourceToken}
use Rattle.widl_idl.specs.declared.tree.literals.Literal.{Literal}
use Rattle.widl_idl.specs.declared.tree.literals.LiteralValue.{LiteralValue}
use Rattle.widl_idl.specs.declared.tree.literals.LiteralValue.TheVariants as value
use Rattle.widl_idl.specs.declared.tree.names.Name.{Name}
use Rattle.widl_predictive.specs.declared.grammar.Symbol.{Symbol}
use Rattle.widl_predictive.specs.declared.grammar.Symbol.TheVariants.{Token}
use Rattle.widl_grammar.specs.declared.rule.Rule.{Rule}
use Rattle.widl_grammar.specs.declared.rule.Rule.TheVariants.{ExtendedAttributeRest, OperationName}
use Rattle.widl_grammar.specs.declared.terminal.Terminal.{Terminal}
use Rattle.widl_grammar.specs.declared.terminal.Terminal.TheVariants.{Identifier, Integer, Decimal, String, Equals, Comma, OpenBracket, CloseBracket, OpenBrace, CloseBrace, Null, Undefined, True, False, Infinity, MinusInfinity, Nan}
use Rattle.widl_grammar.specs.Rows.{rows_of}
use Rattle.widl_grammar.specs.Terminals.{terminal_code}
use Rattle.widl_syntax.specs.Signs.{Sign, Text, OfBytes, OfText, OfPart, Nowhere, at, word, separated, ◌⧺◌}

-- the bytes of a name, with the `_` before it
abbrev pub name_bytes : Name → List ℕ
name_bytes name = if name.escaped then 0x5F ∷ name.text else name.text

-- a `_` before a name is no part of its text
abbrev pub is_escape_apart : Bool → List ℕ → Bool
is_escape_apart true text = true
is_escape_apart false [] = true
is_escape_apart false (b ∷ more) = not (nat_eq b 0x5F)

-- no more tokens; and where a name has the `_` before it in its text, it has no spelling
abbrev pub escape_apart : Name → List Sign
escape_apart name = if is_escape_apart name.escaped name.text then [] else Nowhere ∷ []

-- an identifier
abbrev pub identifier : Name → List Sign
identifier name = at name.at ⧺ OfBytes Identifier (name_bytes name) ∷ escape_apart name

-- the row is one token of the terminal
abbrev pub is_row_of : Terminal → List (Symbol Terminal Rule) → Bool
is_row_of t [] = false
is_row_of t (Token a ∷ []) = nat_eq (terminal_code a) (terminal_code t)
is_row_of t (symbol ∷ more) = false

-- a token of the terminal is a part of the rule by itself
abbrev pub is_word_of : Rule → Terminal → Bool
is_word_of rule t = list_any (is_row_of t) (rows_of rule)

-- an identifier or a word that the rule allows as a name
abbrev pub any_name : Rule → Name → List Sign
any_name rule name = at name.at ⧺ OfText (is_word_of rule) (name_bytes name) ∷ escape_apart name

abbrev pub optional_name : Option Name → List Sign
optional_name None = []
optional_name (Some name) = any_name OperationName name

abbrev pub word_if : Bool → Terminal → List Sign
word_if true t = word t
word_if false t = []

abbrev pub text_of : SourceToken → Text
text_of t = record { at = t.at; bytes = t.text }

-- what stands after the name of an extended attribute
abbrev pub attribute_rest : List SourceToken → List Sign
attribute_rest tokens = OfPart ExtendedAttributeRest (map text_of tokens) ∷ []

abbrev pub extended_attribute : ExtendedAttribute → List Sign
extended_attribute a = identifier a.name ⧺ attribute_rest a.arguments

-- extended attributes in brackets, and nothing where there are none
abbrev pub extended_attributes : List ExtendedAttribute → List Sign
extended_attributes [] = []
extended_attributes (a ∷ more) = word OpenBracket ⧺ separated Comma extended_attribute (a ∷ more) ⧺ word CloseBracket

-- a text in quotation marks
abbrev pub quoted_bytes : List ℕ → List ℕ
quoted_bytes text = 0x22 ∷ (text ++ 0x22 ∷ [])

abbrev pub literal_value : LiteralValue → List Sign
literal_value value.Null = word Null
literal_value value.Undefined = word Undefined
literal_value (value.Boolean true) = word True
literal_value (value.Boolean false) = word False
literal_value (value.Integer text) = OfBytes Integer text ∷ []
literal_value (value.Decimal text) = OfBytes Decimal text ∷ []
literal_value value.Infinity = word Infinity
literal_value value.MinusInfinity = word MinusInfinity
literal_value value.NotANumber = word Nan
literal_value (value.Text text) = OfBytes String (quoted_bytes text) ∷ []
literal_value value.EmptySequence = word OpenBracket ⧺ word CloseBracket
literal_value value.EmptyDictionary = word OpenBrace ⧺ word CloseBrace

abbrev pub literal : Literal → List Sign
literal l = at l.at ⧺ literal_value l.value

abbrev pub default_value : Option (Box Literal) → List Sign
default_value None = []
default_value (Some l) = word Equals ⧺ literal l.value
