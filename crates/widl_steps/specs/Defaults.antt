-- Default values, and the declared arguments that a call doesn't have.
-- Source: Web IDL, "Default values"; "overload resolution algorithm", step 16.
use Rattle.std.specs.Prelude.{ℕ, if◌then◌else◌, List, [], ◌∷◌, ◌++◌, length, slice_get, Option, None, Some}
use Rattle.std.specs.Option.{option_map_or, option_or}
use Rattle.widl_dialog.specs.Dialog.{End, Steps}
use Rattle.widl_idl.specs.declared.callee.Callee.{Callee}
use Rattle.widl_idl.specs.declared.literal.Literal.{Literal}
use Rattle.widl_idl.specs.declared.literal.Literal.TheVariants as literals
use Rattle.widl_idl.specs.DefinitionTerms.{DefsTerm, ArgTerm}
use Rattle.widl_idl.specs.Flattened.{flattened_member}
use Rattle.widl_idl.specs.Terms.{TypeTerm, AnyType, EnumerationType}
use Rattle.widl_overload.specs.sets.Entries.{declared_args}
use Rattle.widl_overload.specs.sets.Sets.{is_variadic}
use Rattle.widl_value.specs.declared.value.Value.TheVariants as values
use Rattle.widl_value.specs.IdlTerms.{IdlTerm, NullValue, MissingValue, BooleanValue, IntegerValue, StringValue, EnumerationValue, AnyValue, SequenceValue, no_values}
use Rattle.widl_scalar.specs.Enumerations.{value_place}
use Rattle.widl_steps.specs.Nullables.{inner_type}
use Rattle.widl_steps.specs.Tasks.{Convert, Default, Defaults, Picks, Talk, TaskEnd}
use Rattle.widl_steps.specs.Words.{gives, given}

-- 1. A literal as an IDL value of a type that it fits

abbrev pub null_of : TypeTerm → IdlTerm
null_of AnyType = AnyValue values.Null
null_of t = NullValue

abbrev pub enumeration_of : TypeTerm → Option ℕ
enumeration_of (EnumerationType n) = Some n
enumeration_of t = None

-- the first enumeration among types, if there is one
abbrev pub enumeration_among : List TypeTerm → Option ℕ
enumeration_among [] = None
enumeration_among (t ∷ types) = option_or (enumeration_of t) (enumeration_among types)

-- the enumeration's value of this text, which the list has
abbrev pub value_of_text : DefsTerm → ℕ → List ℕ → IdlTerm
value_of_text list n text = EnumerationValue n (option_map_or (λ (place : ℕ). place) (value_place list.choices n text) 0)

-- a text is a value of an enumeration where the type is one, or has one inside
abbrev pub text_of : DefsTerm → TypeTerm → List ℕ → IdlTerm
text_of list t text = option_map_or (λ (n : ℕ). value_of_text list n text) (enumeration_among (flattened_member t)) (StringValue text)

-- `{}` is the dictionary that undefined is converted to, also where the type is that dictionary's nullable one
abbrev pub literal_value : DefsTerm → TypeTerm → Literal → Talk
literal_value list t literals.Null = gives (null_of t)
literal_value list t literals.Undefined = gives (AnyValue values.Undefined)
literal_value list t (literals.Bool b) = gives (BooleanValue b)
literal_value list t (literals.Int n) = gives (IntegerValue n)
literal_value list t (literals.Text text) = gives (text_of list t text)
literal_value list t literals.EmptyList = gives (SequenceValue no_values)
literal_value list t literals.EmptyDict = Steps (Convert (inner_type t) values.Undefined) End

-- without a default value it is missing
abbrev pub default : DefsTerm → TypeTerm → Option Literal → Talk
default list t None = gives MissingValue
default list t (Some l) = literal_value list t l

-- 2. The declared arguments after those that a call has: each gives its default value, or is missing. A variadic one, the last, gives nothing.

abbrev pub default_given : Callee → ℕ → List IdlTerm → TaskEnd → Talk
default_given callee overload made = given (λ w. Steps (Defaults callee overload (made ++ w ∷ [])) End)

abbrev pub defaults_from : Callee → ℕ → List IdlTerm → Option ArgTerm → Talk
defaults_from callee overload made None = End (Picks overload made)
defaults_from callee overload made (Some a) =
    if is_variadic a.opt then End (Picks overload made) else Steps (Default a.ty a.value) (default_given callee overload made)

abbrev pub defaults : DefsTerm → Callee → ℕ → List IdlTerm → Talk
defaults list callee overload made = defaults_from callee overload made (slice_get (declared_args list callee overload) (length made))
