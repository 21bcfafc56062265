-- How many values an IDL value has in it, itself included: what is left to copy.
use Rattle.std.proofs.Common.{◌≡◌, ℕ, ◌+◌, List, [], ◌∷◌, map, refl, ap}
use Rattle.widl_value.specs.IdlTerms.{IdlTerm, IdlTerms, EntryTerms, MemberTerms, UndefinedValue, NullValue, MissingValue, BooleanValue, IntegerValue, StringValue, EnumerationValue, ObjectValue, AnyValue, SequenceValue, RecordValue, DictionaryValue, PromiseValue, no_values, more_values, no_entries, more_entries, no_members, more_members, packed_entries, packed_members, packed_values}

abbrev mutual
  pub value_size : IdlTerm → ℕ
  value_size UndefinedValue = 1
  value_size NullValue = 1
  value_size MissingValue = 1
  value_size (BooleanValue b) = 1
  value_size (IntegerValue n) = 1
  value_size (StringValue text) = 1
  value_size (EnumerationValue enumeration index) = 1
  value_size (ObjectValue obj) = 1
  value_size (AnyValue value) = 1
  value_size (SequenceValue values) = 1 + values_size values
  value_size (RecordValue entries) = 1 + entries_size entries
  value_size (DictionaryValue dictionary members) = 1 + members_size members
  value_size (PromiseValue obj) = 1

  pub values_size : IdlTerms → ℕ
  values_size no_values = 0
  values_size (more_values value values) = 1 + value_size value + values_size values

  pub entries_size : EntryTerms → ℕ
  entries_size no_entries = 0
  entries_size (more_entries key value entries) = 1 + value_size value + entries_size entries

  pub members_size : MemberTerms → ℕ
  members_size no_members = 0
  members_size (more_members dictionary n value members) = 1 + value_size value + members_size members

-- values in a row
abbrev pub part_sizes : List IdlTerm → ℕ
part_sizes [] = 0
part_sizes (value ∷ values) = 1 + value_size value + part_sizes values

pub values_sizes : (values : List IdlTerm) → values_size (packed_values values) ≡ part_sizes values
values_sizes [] = refl
values_sizes (v ∷ values) = ap (λ n. 1 + value_size v + n) (values_sizes values)

pub entries_sizes : (entries : List (List ℕ × IdlTerm)) → entries_size (packed_entries entries) ≡ part_sizes (map (λ entry. entry.1) entries)
entries_sizes [] = refl
entries_sizes (e ∷ entries) = ap (λ n. 1 + value_size e.1 + n) (entries_sizes entries)

pub members_sizes : (members : List (ℕ × ℕ × IdlTerm)) → members_size (packed_members members) ≡ part_sizes (map (λ member. member.2) members)
members_sizes [] = refl
members_sizes (m ∷ members) = ap (λ n. 1 + value_size m.2 + n) (members_sizes members)
