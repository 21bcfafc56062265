-- What written names, texts and values mean.
-- Source: Web IDL, "Names" and "Constants".
use Rattle.std.specs.Prelude.{ℕ, List, chars, Option, option_map}
use Rattle.widl_text.specs.IntegerTokens.{integer_of}
use Rattle.widl_text.specs.Utf16.{utf16_of}
use Rattle.widl_idl.specs.declared.literal.Literal.{Literal}
use Rattle.widl_idl.specs.declared.literal.Literal.TheVariants as the
use Rattle.widl_idl.specs.PlainTypes.{PlainName, PlainLiteral, PlainValue, NullValue, UndefinedValue, BooleanValue, IntegerValue, TextValue, EmptySequenceValue, EmptyDictionaryValue}

-- the 16-bit units of a text's bytes
abbrev pub units_of : List ℕ → List ℕ
units_of bytes = utf16_of (chars bytes)

-- the units of a name
abbrev pub name_units : PlainName → List ℕ
name_units name = units_of name.text

-- the value of a literal; a form that the profile leaves unsupported stands as null
abbrev pub value_meant : PlainValue → Literal
value_meant NullValue = the.Null
value_meant UndefinedValue = the.Undefined
value_meant (BooleanValue b) = the.Bool b
value_meant (IntegerValue text) = the.Int (integer_of text)
value_meant (TextValue text) = the.Text (units_of text)
value_meant EmptySequenceValue = the.EmptyList
value_meant EmptyDictionaryValue = the.EmptyDict
value_meant literal = the.Null

abbrev pub default_of : Option PlainLiteral → Option Literal
default_of default = option_map (λ l. value_meant l.value) default
