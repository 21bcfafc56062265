-- Types as a file has them, without annotations (Web IDL, "Types").
use Rattle.std.specs.Prelude.{ℕ, ◌++◌, List, [], ◌∷◌, codes, slice_get, Option, None, Some, option_map}
use Rattle.widl_idl.specs.declared.enumeration.Choice.{Choice}
use Rattle.widl_idl.specs.declared.int_kind.IntKind.{IntKind}
use Rattle.widl_idl.specs.declared.int_kind.IntKind.TheVariants as integers
use Rattle.widl_idl.specs.declared.text_kind.TextKind.{TextKind}
use Rattle.widl_idl.specs.declared.text_kind.TextKind.TheVariants as strings
use Rattle.widl_idl.specs.DefinitionTerms.{CallbackTerm, DefsTerm, DictTerm, IfaceTerm}
use Rattle.widl_idl.specs.Terms.{TypeTerm, TypeTerms, AnyType, UndefinedType, BooleanType, IntegerType, StringType, EnumerationType, InterfaceType, CallbackFunctionType, CallbackInterfaceType, DictionaryType, ObjectType, SequenceType, RecordType, PromiseType, NullableType, UnionType, no_types, more_types}
use Rattle.widl_spell.specs.Names.{separated, written_name}

abbrev pub integer_text : IntKind → List ℕ
integer_text integers.Byte = codes "byte"
integer_text integers.Octet = codes "octet"
integer_text integers.Short = codes "short"
integer_text integers.UShort = codes "unsigned short"
integer_text integers.Long = codes "long"
integer_text integers.ULong = codes "unsigned long"
integer_text integers.LongLong = codes "long long"
integer_text integers.ULongLong = codes "unsigned long long"

abbrev pub string_text : TextKind → List ℕ
string_text strings.Dom = codes "DOMString"
string_text strings.Usv = codes "USVString"
string_text strings.Byte = codes "ByteString"

-- the name of a definition; nothing where no definition has the number
abbrev pub written_or_nothing : Option (List ℕ) → List ℕ
written_or_nothing None = []
written_or_nothing (Some name) = written_name name

abbrev pub interface_name : List IfaceTerm → ℕ → Option (List ℕ)
interface_name ifaces n = option_map (λ i. i.name) (slice_get ifaces n)

abbrev pub dictionary_name : List DictTerm → ℕ → Option (List ℕ)
dictionary_name dicts n = option_map (λ d. d.name) (slice_get dicts n)

abbrev pub enumeration_name : List Choice → ℕ → Option (List ℕ)
enumeration_name choices n = option_map (λ c. c.name) (slice_get choices n)

abbrev pub callback_name : List CallbackTerm → ℕ → Option (List ℕ)
callback_name callbacks n = option_map (λ c. c.name) (slice_get callbacks n)

abbrev mutual
  -- the text of a type
  pub type_text : DefsTerm → TypeTerm → List ℕ
  type_text defs AnyType = codes "any"
  type_text defs UndefinedType = codes "undefined"
  type_text defs BooleanType = codes "boolean"
  type_text defs (IntegerType kind mode) = integer_text kind
  type_text defs (StringType kind null_empty) = string_text kind
  type_text defs (EnumerationType n) = written_or_nothing (enumeration_name defs.choices n)
  type_text defs (InterfaceType n) = written_or_nothing (interface_name defs.ifaces n)
  type_text defs (CallbackFunctionType n) = written_or_nothing (callback_name defs.callback_fns n)
  type_text defs (CallbackInterfaceType n) = written_or_nothing (callback_name defs.callback_ifaces n)
  type_text defs (DictionaryType n) = written_or_nothing (dictionary_name defs.dicts n)
  type_text defs ObjectType = codes "object"
  type_text defs (SequenceType t) = codes "sequence<" ++ type_text defs t ++ codes ">"
  type_text defs (RecordType key t) = codes "record<" ++ string_text key ++ codes ", " ++ type_text defs t ++ codes ">"
  type_text defs (PromiseType t) = codes "Promise<" ++ type_text defs t ++ codes ">"
  type_text defs (NullableType t) = type_text defs t ++ codes "?"
  type_text defs (UnionType ts) = codes "(" ++ separated (codes " or ") (member_texts defs ts) ++ codes ")"

  pub member_texts : DefsTerm → TypeTerms → List (List ℕ)
  member_texts defs no_types = []
  member_texts defs (more_types t ts) = type_text defs t ∷ member_texts defs ts
