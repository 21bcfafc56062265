-- For proofs alone. Whether a literal fits a type, as the program tests it.
use Rattle.std.specs.Prelude.{ℕ, Bool, true, false, not, ◌&&◌, ◌||◌, Option, None, Some, slice_get}
use Rattle.std.specs.List.{list_any}
use Rattle.widl_idl.specs.declared.int_kind.IntKind.{IntKind}
use Rattle.widl_idl.specs.declared.literal.Literal.{Literal}
use Rattle.widl_idl.specs.declared.literal.Literal.TheVariants as the
use Rattle.widl_idl.specs.declared.text_kind.TextKind.{TextKind}
use Rattle.widl_idl.specs.DefinitionTerms.{DefsTerm}
use Rattle.widl_idl.specs.Flattened.{flattened_member, includes_nullable_type}
use Rattle.widl_idl.specs.PlainTypes.{PlainValue, DecimalValue, InfinityValue, MinusInfinityValue, NotANumberValue}
use Rattle.widl_idl.specs.Terms.{TypeTerm, AnyType, BooleanType, IntegerType, StringType, EnumerationType, DictionaryType, SequenceType}
use Rattle.widl_idl.specs.WrittenLiterals.{value_meant}
use Rattle.widl_overload.specs.rules.DefaultRules.{has_text}
use Rattle.widl_idl.specs.Ranges.{is_in_range}
use Rattle.widl_fits.specs.declared.tables.Tables.{Tables}
use Rattle.widl_fits.specs.ChoiceValues.{KeepValues, is_kept}
use Rattle.widl_fits.specs.Required.{TellsRequired, is_flagged}

-- the tables tell which dictionaries have required members
pub record KnowsRequired (list : DefsTerm) (tables : Tables) : Type 0 where
  pub required : TellsRequired list.dicts tables.required

-- the tables are those of the list
pub record Knows (list : DefsTerm) (tables : Tables) : Type 0 where
  pub dictionaries : KnowsRequired list tables
  pub values : KeepValues tables.values.items list.choices

-- the value of a literal; none for the forms that the profile leaves unsupported
abbrev pub literal_if : PlainValue → Option Literal
literal_if (DecimalValue text) = None
literal_if InfinityValue = None
literal_if MinusInfinityValue = None
literal_if NotANumberValue = None
literal_if value = Some (value_meant value)

abbrev pub is_null : Literal → Bool
is_null the.Null = true
is_null literal = false

abbrev pub is_null_or_undefined : Literal → Bool
is_null_or_undefined the.Null = true
is_null_or_undefined the.Undefined = true
is_null_or_undefined literal = false

abbrev pub is_boolean : Literal → Bool
is_boolean (the.Bool b) = true
is_boolean literal = false

abbrev pub is_empty_list : Literal → Bool
is_empty_list the.EmptyList = true
is_empty_list literal = false

abbrev pub is_integer_in : IntKind → Literal → Bool
is_integer_in kind (the.Int number) = is_in_range kind number
is_integer_in kind literal = false

abbrev pub is_text_of : TextKind → Literal → Bool
is_text_of kind (the.Text text) = has_text kind text
is_text_of kind literal = false

abbrev pub is_value_of : Tables → ℕ → Literal → Bool
is_value_of tables number (the.Text text) = is_kept (slice_get tables.values.items number) text
is_value_of tables number literal = false

abbrev pub is_empty_dictionary : Tables → ℕ → Literal → Bool
is_empty_dictionary tables number the.EmptyDict = not (is_flagged tables.required number)
is_empty_dictionary tables number literal = false

-- whether a literal is a value of a type that is neither nullable nor a union
unfoldable pub takes : Tables → Literal → TypeTerm → Bool
takes tables literal AnyType = is_null_or_undefined literal
takes tables literal BooleanType = is_boolean literal
takes tables literal (IntegerType kind mode) = is_integer_in kind literal
takes tables literal (StringType kind null_empty) = is_text_of kind literal
takes tables literal (EnumerationType n) = is_value_of tables n literal
takes tables literal (SequenceType t) = is_empty_list literal
takes tables literal (DictionaryType n) = is_empty_dictionary tables n literal
takes tables literal t = false

abbrev pub takes_if : Tables → Option Literal → TypeTerm → Bool
takes_if tables None t = false
takes_if tables (Some literal) t = takes tables literal t

abbrev pub null_if : Option Literal → Bool
null_if None = false
null_if (Some literal) = is_null literal

-- whether a literal fits a type
abbrev pub fits_if : Tables → Option Literal → TypeTerm → Bool
fits_if tables literal t = (null_if literal && includes_nullable_type t) || list_any (takes_if tables literal) (flattened_member t)
