-- The terms of a sequence, a record and a dictionary.
use Rattle.std.proofs.Common.{◌≡◌, ap, sym, ◌∙◌}
use Rattle.std.specs.Prelude.{ℕ}
use Rattle.widl_value.specs.IdlTerms.{IdlTerm, IdlTerms, EntryTerms, MemberTerms, DictionaryValue, RecordValue, SequenceValue, entry_terms, idl_term, idl_terms, member_terms, packed_entries, packed_members, packed_values, value_level, entries_level, members_level, values_level}
use Rattle.widl_value.specs.declared.idl_entries.IdlEntries.{IdlEntries}
use Rattle.widl_value.specs.declared.idl_members.IdlMembers.{IdlMembers}
use Rattle.widl_value.specs.declared.idl_values.IdlValues.{IdlValues}
use Rattle.widl_value.specs.declared.idl_value.IdlValue.{Dict}
use Rattle.widl_value.specs.declared.idl_value.IdlValue as variants
use Rattle.widl_value.specs.declared.idl_value.IdlValue.TheOpen as levels
use Rattle.widl_value.specs.declared.idl_value.IdlValue.TheVariants.{rolls-Dict, rolls-Entries, rolls-List}
use Rattle.widl_value.specs.declared.idl_value.IdlValue.TheFolds.{fold-IdlMembers, fold-roll-IdlValue, fold_out-IdlEntries, fold_out-IdlMembers, fold_out-IdlValues}

members_term : (members : IdlMembers) → fold-IdlMembers IdlTerm EntryTerms MemberTerms IdlTerms value_level entries_level members_level values_level members ≡ packed_members (member_terms members)
members_term members = fold_out-IdlMembers IdlTerm EntryTerms MemberTerms IdlTerms value_level entries_level members_level values_level members

-- a dictionary stands for its number and the terms of its members
pub dictionary_term : (dictionary : ℕ) (members : IdlMembers) → idl_term (Dict dictionary members) ≡ DictionaryValue dictionary (packed_members (member_terms members))
dictionary_term dictionary members =
    ap idl_term (sym (rolls-Dict dictionary members))
    ∙ fold-roll-IdlValue IdlTerm EntryTerms MemberTerms IdlTerms value_level entries_level members_level values_level (levels.Dict dictionary members)
    ∙ ap (DictionaryValue dictionary) (members_term members)

-- a sequence stands for the terms of its values
pub sequence_term : (values : IdlValues) → idl_term (variants.List values) ≡ SequenceValue (packed_values (idl_terms values))
sequence_term values =
    ap idl_term (sym (rolls-List values))
    ∙ fold-roll-IdlValue IdlTerm EntryTerms MemberTerms IdlTerms value_level entries_level members_level values_level (levels.List values)
    ∙ ap SequenceValue (fold_out-IdlValues IdlTerm EntryTerms MemberTerms IdlTerms value_level entries_level members_level values_level values)

-- a record stands for the keys and the terms of its entries
pub record_term : (entries : IdlEntries) → idl_term (variants.Entries entries) ≡ RecordValue (packed_entries (entry_terms entries))
record_term entries =
    ap idl_term (sym (rolls-Entries entries))
    ∙ fold-roll-IdlValue IdlTerm EntryTerms MemberTerms IdlTerms value_level entries_level members_level values_level (levels.Entries entries)
    ∙ ap RecordValue (fold_out-IdlEntries IdlTerm EntryTerms MemberTerms IdlTerms value_level entries_level members_level values_level entries)
