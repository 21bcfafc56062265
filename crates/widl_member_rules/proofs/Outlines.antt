-- What the outline of a type tells.
use Rattle.std.proofs.Common.{◌≡◌, refl}
use Rattle.widl_idl.specs.PlainTypes.{PlainValue}
use Rattle.widl_idl.specs.Terms.{TypeTerm, BooleanType, IntegerType, NullableType}
use Rattle.widl_names.specs.Extents.{outline}
use Rattle.widl_overload.specs.rules.MemberRules.{is_promise}
use Rattle.widl_idl.specs.StringTypes.{is_unit_string}
use Rattle.widl_overload.specs.rules.TypeRules.{takes_value}

pub promise_outline : (t : TypeTerm) → is_promise (outline t) ≡ is_promise t
promise_outline (NullableType t) = refl
promise_outline t = refl

pub string_outline : (t : TypeTerm) → is_unit_string (outline t) ≡ is_unit_string t
string_outline (NullableType t) = refl
string_outline t = refl

pub value_outline : (t : TypeTerm) (value : PlainValue) → takes_value (outline t) value ≡ takes_value t value
value_outline BooleanType value = refl
value_outline (IntegerType kind mode) value = refl
value_outline t value = refl
