-- The string types whose texts may have any units.
-- Source: Web IDL, "DOMString", "USVString" and "ByteString".
use Rattle.std.specs.Prelude.{Bool, true, false}
use Rattle.widl_idl.specs.declared.text_kind.TextKind.{TextKind}
use Rattle.widl_idl.specs.declared.text_kind.TextKind.TheVariants as texts
use Rattle.widl_idl.specs.Terms.{TypeTerm, StringType}

abbrev pub is_unit_text : TextKind → Bool
is_unit_text texts.Dom = true
is_unit_text texts.Usv = true
is_unit_text texts.Byte = false

-- the string types DOMString and USVString
abbrev pub is_unit_string : TypeTerm → Bool
is_unit_string (StringType kind null_empty) = is_unit_text kind
is_unit_string t = false
