-- The lists of definitions over which scripts can be run today. It grows with each type whose conversion is built, and goes with the last.
-- Source: this program's own.
use Rattle.std.specs.Prelude.{◌≡◌, ◌&&◌, Bool, true, false}
use Rattle.std.specs.List.{list_all}
use Rattle.widl_idl.specs.DefinitionTerms.{ArgTerm, DefsTerm, DictTerm, MemberTerm, OpNameTerm, SigTerm, SpaceTerm}
use Rattle.widl_idl.specs.Terms.{TypeTerm, TypeTerms, AnyType, UndefinedType, BooleanType, IntegerType, StringType, EnumerationType, DictionaryType, ObjectType, SequenceType, RecordType, NullableType, UnionType, no_types, more_types}
use Rattle.widl_overload.specs.OperationsAlone.{HasOperationsAlone, is_none}

-- a type whose values are converted by themselves or by their primitive values: no container, no union, no interface
abbrev pub is_scalar : TypeTerm → Bool
is_scalar AnyType = true
is_scalar BooleanType = true
is_scalar (IntegerType kind mode) = true
is_scalar (StringType kind null_empty) = true
is_scalar (EnumerationType n) = true
is_scalar ObjectType = true
is_scalar t = false

abbrev mutual
  -- such a type, a dictionary, or a sequence, a record, a nullable type or a union of such, at any depth
  pub is_served_type : TypeTerm → Bool
  is_served_type (SequenceType t) = is_served_type t
  is_served_type (RecordType key t) = is_served_type t
  is_served_type (DictionaryType n) = true
  is_served_type (NullableType t) = is_served_type t
  is_served_type (UnionType ts) = are_served_types ts
  is_served_type t = is_scalar t

  pub are_served_types : TypeTerms → Bool
  are_served_types no_types = true
  are_served_types (more_types t ts) = is_served_type t && are_served_types ts

-- the type of a result: `undefined`, or such a type
abbrev pub is_served_result : TypeTerm → Bool
is_served_result UndefinedType = true
is_served_result t = is_served_type t

abbrev pub is_served_argument : ArgTerm → Bool
is_served_argument a = is_served_type a.ty

-- each argument has such a type, and the result one that is served
abbrev pub is_served_signature : SigTerm → Bool
is_served_signature s = list_all is_served_argument s.args && is_served_result s.returned

abbrev pub is_served_name : OpNameTerm → Bool
is_served_name o = list_all is_served_signature o.sigs

abbrev pub is_served_namespace : SpaceTerm → Bool
is_served_namespace n = list_all is_served_name n.members.ops

abbrev pub is_served_member : MemberTerm → Bool
is_served_member m = is_served_type m.ty

-- each member has such a type
abbrev pub is_served_dictionary : DictTerm → Bool
is_served_dictionary d = list_all is_served_member d.members

-- beside namespaces there are only dictionaries and enumerations
abbrev pub has_no_callbacks : DefsTerm → Bool
has_no_callbacks defs = is_none defs.callback_fns && is_none defs.callback_ifaces

abbrev pub has_served_definitions : DefsTerm → Bool
has_served_definitions defs = list_all is_served_dictionary defs.dicts && list_all is_served_namespace defs.spaces

abbrev pub has_served_operations : DefsTerm → Bool
has_served_operations defs = has_no_callbacks defs && has_served_definitions defs

-- namespaces of operations alone, dictionaries and enumerations, each operation and dictionary served
abbrev pub IsServed : DefsTerm → Type 0
IsServed defs = HasOperationsAlone defs × (has_served_operations defs ≡ true)
