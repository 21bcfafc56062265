-- For proofs alone. Whether a default value fits its type by the way in which both are written.
use Rattle.std.specs.Prelude.{Bool, true, false, ◌&&◌, ◌||◌, Option, Some}
use Rattle.widl_text.specs.declared.place.Place.{Place}
use Rattle.widl_idl.specs.declared.text_kind.TextKind.{TextKind}
use Rattle.widl_idl.specs.declared.text_kind.TextKind.TheVariants as texts
use Rattle.widl_idl.specs.declared.tree.types.Container.{Container}
use Rattle.widl_idl.specs.declared.tree.types.Container.TheVariants as container
use Rattle.widl_idl.specs.PlainTypes.{PlainForm, PlainType, PlainBoolean, PlainText, PlainContainer, plain_type, PlainValue, NullValue, BooleanValue, TextValue, EmptySequenceValue}

-- the value is null after a `?`
abbrev pub is_questioned_null : Option Place → PlainValue → Bool
is_questioned_null (Some question) NullValue = true
is_questioned_null question value = false

abbrev pub is_boolean_value : PlainValue → Bool
is_boolean_value (BooleanValue b) = true
is_boolean_value value = false

abbrev pub is_text_value : PlainValue → Bool
is_text_value (TextValue text) = true
is_text_value value = false

abbrev pub is_empty_sequence : PlainValue → Bool
is_empty_sequence EmptySequenceValue = true
is_empty_sequence value = false

-- the string types that have each text
abbrev pub has_each_text : TextKind → Bool
has_each_text texts.Byte = false
has_each_text kind = true

abbrev pub is_sequence : Container → Bool
is_sequence container.Sequence = true
is_sequence kind = false

-- the value is one of each type of this form
abbrev pub is_value_of_form : PlainForm → PlainValue → Bool
is_value_of_form PlainBoolean value = is_boolean_value value
is_value_of_form (PlainText kind) value = is_text_value value && has_each_text kind
is_value_of_form (PlainContainer kind inner) value = is_empty_sequence value && is_sequence kind
is_value_of_form form value = false

abbrev pub fits_as_written : PlainType → PlainValue → Bool
fits_as_written (plain_type at form question) value = is_questioned_null question value || is_value_of_form form value
