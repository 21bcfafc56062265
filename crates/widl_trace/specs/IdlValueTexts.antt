-- IDL values in a trace (this program's own).
use Rattle.std.specs.Prelude.{ℕ, ◌++◌, List, [], ◌∷◌, codes, slice_get, Option, None, Some, option_map, option_and_then}
use Rattle.std.specs.Fmt.{signed_decimal}
use Rattle.widl_idl.specs.DefinitionTerms.{DefsTerm, DictTerm}
use Rattle.widl_spell.specs.Names.{separated}
use Rattle.widl_value.specs.IdlTerms.{IdlTerm, IdlTerms, EntryTerms, MemberTerms, UndefinedValue, NullValue, MissingValue, BooleanValue, IntegerValue, StringValue, EnumerationValue, ObjectValue, AnyValue, SequenceValue, RecordValue, DictionaryValue, PromiseValue, no_values, more_values, no_entries, more_entries, no_members, more_members}
use Rattle.widl_trace.specs.CalleeTexts.{name_or_nothing}
use Rattle.widl_trace.specs.ValueTexts.{boolean_text, object_text, quoted, value_text}

abbrev pub quoted_or_nothing : Option (List ℕ) → List ℕ
quoted_or_nothing None = []
quoted_or_nothing (Some text) = quoted text

-- the text of a value of an enumeration
abbrev pub enumeration_value : DefsTerm → ℕ → ℕ → Option (List ℕ)
enumeration_value defs enumeration index = option_and_then (λ e. slice_get e.values index) (slice_get defs.choices enumeration)

abbrev pub dictionary_name : DefsTerm → ℕ → Option (List ℕ)
dictionary_name defs n = option_map (λ d. d.name) (slice_get defs.dicts n)

abbrev pub member_name_in : DictTerm → ℕ → Option (List ℕ)
member_name_in dictionary n = option_map (λ m. m.name) (slice_get dictionary.members n)

-- the name of a member, by the dictionary that declares it and its number there
abbrev pub member_name : DefsTerm → ℕ → ℕ → Option (List ℕ)
member_name defs dictionary n = option_and_then (λ d. member_name_in d n) (slice_get defs.dicts dictionary)

-- the key of an entry or the name of a member, and the text of its value
abbrev pub with_value : List ℕ → List ℕ → List ℕ
with_value front value = front ++ codes ": " ++ value

abbrev mutual
  -- the text of a value
  pub idl_value_text : DefsTerm → IdlTerm → List ℕ
  idl_value_text defs UndefinedValue = codes "undefined"
  idl_value_text defs NullValue = codes "null"
  idl_value_text defs MissingValue = codes "missing"
  idl_value_text defs (BooleanValue b) = boolean_text b
  idl_value_text defs (IntegerValue n) = signed_decimal n
  idl_value_text defs (StringValue text) = quoted text
  idl_value_text defs (EnumerationValue enumeration index) = quoted_or_nothing (enumeration_value defs enumeration index)
  idl_value_text defs (ObjectValue obj) = object_text obj
  idl_value_text defs (AnyValue value) = value_text value
  idl_value_text defs (SequenceValue values) = codes "[" ++ separated (codes ", ") (element_texts defs values) ++ codes "]"
  idl_value_text defs (RecordValue entries) = codes "{" ++ separated (codes ", ") (entry_texts defs entries) ++ codes "}"
  idl_value_text defs (DictionaryValue dictionary members) = name_or_nothing (dictionary_name defs dictionary) ++ codes "{" ++ separated (codes ", ") (member_texts defs members) ++ codes "}"
  idl_value_text defs (PromiseValue obj) = codes "promise " ++ object_text obj

  pub element_texts : DefsTerm → IdlTerms → List (List ℕ)
  element_texts defs no_values = []
  element_texts defs (more_values value values) = idl_value_text defs value ∷ element_texts defs values

  -- the key and the value of each entry
  pub entry_texts : DefsTerm → EntryTerms → List (List ℕ)
  entry_texts defs no_entries = []
  entry_texts defs (more_entries key value entries) = with_value (quoted key) (idl_value_text defs value) ∷ entry_texts defs entries

  -- the name and the value of each member that is present
  pub member_texts : DefsTerm → MemberTerms → List (List ℕ)
  member_texts defs no_members = []
  member_texts defs (more_members dictionary n value members) = with_value (name_or_nothing (member_name defs dictionary n)) (idl_value_text defs value) ∷ member_texts defs members

-- one entry, as the clauses of this crate's own functions have it
abbrev pub entry_text : DefsTerm → List ℕ × IdlTerm → List ℕ
entry_text defs entry = with_value (quoted entry.0) (idl_value_text defs entry.1)

-- one member
abbrev pub member_text : DefsTerm → ℕ × ℕ × IdlTerm → List ℕ
member_text defs member = with_value (name_or_nothing (member_name defs member.0 member.1)) (idl_value_text defs member.2)
