-- IDL values as plain terms: a value without the places in memory of its parts.
use Rattle.std.specs.Prelude.{ℕ, ℤ, Bool, Option, List, [], ◌∷◌, map, option_map}
use Rattle.widl_value.specs.declared.idl_entries.IdlEntries.{IdlEntries}
use Rattle.widl_value.specs.declared.idl_members.IdlMembers.{IdlMembers}
use Rattle.widl_value.specs.declared.idl_pairs.IdlPair.{IdlPair}
use Rattle.widl_value.specs.declared.idl_value.IdlValue.{IdlValue}
use Rattle.widl_value.specs.declared.idl_value.IdlValue.TheOpen as levels
use Rattle.widl_value.specs.declared.idl_value.IdlValue.TheOpen.{IdlValue-F, IdlEntries-F, IdlMembers-F, IdlValues-F}
use Rattle.widl_value.specs.declared.idl_value.IdlValue.TheFolds.{fold-IdlValue}
use Rattle.widl_value.specs.declared.idl_values.IdlValues.{IdlValues}
use Rattle.widl_value.specs.declared.object.ObjRef.{ObjRef}
use Rattle.widl_value.specs.declared.value.Value.{Value}

mutual
  pub data IdlTerm : Type 0 where
    UndefinedValue : IdlTerm
    NullValue : IdlTerm
    MissingValue : IdlTerm
    BooleanValue : Bool → IdlTerm
    IntegerValue : ℤ → IdlTerm
    StringValue : List ℕ → IdlTerm
    EnumerationValue : ℕ → ℕ → IdlTerm
    ObjectValue : ObjRef → IdlTerm
    AnyValue : Value → IdlTerm
    SequenceValue : IdlTerms → IdlTerm
    RecordValue : EntryTerms → IdlTerm
    DictionaryValue : ℕ → MemberTerms → IdlTerm
    PromiseValue : ObjRef → IdlTerm

  pub data IdlTerms : Type 0 where
    no_values : IdlTerms
    more_values : IdlTerm → IdlTerms → IdlTerms

  -- the entries of a record, each a key and a value
  pub data EntryTerms : Type 0 where
    no_entries : EntryTerms
    more_entries : List ℕ → IdlTerm → EntryTerms → EntryTerms

  -- the members of a dictionary, each with the dictionary that declares it and its number there
  pub data MemberTerms : Type 0 where
    no_members : MemberTerms
    more_members : ℕ → ℕ → IdlTerm → MemberTerms → MemberTerms

abbrev pub packed_values : List IdlTerm → IdlTerms
packed_values [] = no_values
packed_values (v ∷ vs) = more_values v (packed_values vs)

abbrev pub packed_entries : List (List ℕ × IdlTerm) → EntryTerms
packed_entries [] = no_entries
packed_entries (e ∷ es) = more_entries e.0 e.1 (packed_entries es)

abbrev pub packed_members : List (ℕ × ℕ × IdlTerm) → MemberTerms
packed_members [] = no_members
packed_members (m ∷ ms) = more_members m.0 m.1 m.2 (packed_members ms)

-- one level of a value, where the levels below are terms
abbrev pub value_level : IdlValue-F IdlTerm EntryTerms MemberTerms IdlTerms → IdlTerm
value_level levels.Undefined = UndefinedValue
value_level levels.Null = NullValue
value_level levels.Missing = MissingValue
value_level (levels.Bool b) = BooleanValue b
value_level (levels.Int n) = IntegerValue n
value_level (levels.Text text) = StringValue text
value_level (levels.Choice enumeration index) = EnumerationValue enumeration index
value_level (levels.Object object) = ObjectValue object
value_level (levels.Any value) = AnyValue value
value_level (levels.List values) = SequenceValue values
value_level (levels.Entries entries) = RecordValue entries
value_level (levels.Dict dictionary members) = DictionaryValue dictionary members
value_level (levels.Promise promise) = PromiseValue promise

abbrev pub entries_level : IdlEntries-F IdlTerm EntryTerms MemberTerms IdlTerms → EntryTerms
entries_level entries = packed_entries entries.items.items

abbrev pub members_level : IdlMembers-F IdlTerm EntryTerms MemberTerms IdlTerms → MemberTerms
members_level members = packed_members members.items.items

abbrev pub values_level : IdlValues-F IdlTerm EntryTerms MemberTerms IdlTerms → IdlTerms
values_level values = packed_values values.items.items

-- the term of a value
abbrev pub idl_term : IdlValue → IdlTerm
idl_term = fold-IdlValue IdlTerm EntryTerms MemberTerms IdlTerms value_level entries_level members_level values_level

abbrev pub entry_term : List ℕ × IdlValue → List ℕ × IdlTerm
entry_term entry = (entry.0, idl_term entry.1)

abbrev pub member_term : ℕ × ℕ × IdlValue → ℕ × ℕ × IdlTerm
member_term member = (member.0, member.1, idl_term member.2)

abbrev pub slot_term : Option IdlValue → Option IdlTerm
slot_term slot = option_map idl_term slot

abbrev pub pair_term : IdlPair → IdlTerm × IdlTerm
pair_term pair = (idl_term pair.key, idl_term pair.value)

-- the items of lists, as contracts see them
abbrev pub idl_terms : IdlValues → List IdlTerm
idl_terms values = map idl_term values.items.items

abbrev pub entry_terms : IdlEntries → List (List ℕ × IdlTerm)
entry_terms entries = map entry_term entries.items.items

abbrev pub member_terms : IdlMembers → List (ℕ × ℕ × IdlTerm)
member_terms members = map member_term members.items.items

abbrev pub slot_terms : List (Option IdlValue) → List (Option IdlTerm)
slot_terms slots = map slot_term slots

abbrev pub pair_terms : List IdlPair → List (IdlTerm × IdlTerm)
pair_terms pairs = map pair_term pairs
