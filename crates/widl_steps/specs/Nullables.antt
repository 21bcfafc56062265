-- Values of the script to nullable types.
-- Source: Web IDL, "Nullable types" (JavaScript binding).
use Rattle.widl_idl.specs.Terms.{TypeTerm, NullableType}
use Rattle.widl_value.specs.declared.value.Value.{Value}
use Rattle.widl_value.specs.declared.value.Value.TheVariants as values
use Rattle.widl_value.specs.IdlTerms.{NullValue}
use Rattle.widl_steps.specs.Tasks.{Talk}
use Rattle.widl_steps.specs.Words.{gives}

-- the inner type of a nullable type; any other type itself
abbrev pub inner_type : TypeTerm → TypeTerm
inner_type (NullableType t) = t
inner_type t = t

-- undefined and null are null, and any other value is one of the inner type, by the steps of its conversion
abbrev pub to_nullable : (Value → Talk) → Value → Talk
to_nullable inner values.Undefined = gives NullValue
to_nullable inner values.Null = gives NullValue
to_nullable inner v = inner v
