-- Values in another one that are being copied (this program's own). The contracts of functions inside this crate speak of it.
use Rattle.std.specs.Prelude.{◌≡◌, ℕ, List, [], ◌∷◌, ◌++◌, length, map, take, Some, slice_get}
use Rattle.widl_value.specs.IdlTerms.{IdlTerm, SequenceValue, RecordValue, DictionaryValue, idl_term, idl_terms, entry_terms, member_terms, packed_values, packed_entries, packed_members}
use Rattle.widl_value.specs.declared.copying.Begun.{Begun}
use Rattle.widl_value.specs.declared.copying.Begun.TheVariants as begins
use Rattle.widl_value.specs.declared.copying.Copying.{Copying}
use Rattle.widl_value.specs.declared.copying.Copying.TheVariants as kinds

-- the value that is copied
abbrev pub source_term : Copying → IdlTerm
source_term (kinds.Values source _) = SequenceValue (packed_values (idl_terms source.now))
source_term (kinds.Entries source _) = RecordValue (packed_entries (entry_terms source.now))
source_term (kinds.Members dictionary source _) = DictionaryValue dictionary (packed_members (member_terms source.now))

-- the values in it
abbrev pub parts : Copying → List IdlTerm
parts (kinds.Values source _) = idl_terms source.now
parts (kinds.Entries source _) = map (λ entry. entry.1) (entry_terms source.now)
parts (kinds.Members _ source _) = map (λ member. member.2) (member_terms source.now)

-- how many of them are copied
abbrev pub copied : Copying → ℕ
copied (kinds.Values _ copy) = length (idl_terms copy)
copied (kinds.Entries _ copy) = length (entry_terms copy)
copied (kinds.Members _ _ copy) = length (member_terms copy)

-- the copies are those of the first ones
abbrev pub IsFront : Copying → Type 0
IsFront (kinds.Values source copy) = idl_terms copy ≡ take (length (idl_terms copy)) (idl_terms source.now)
IsFront (kinds.Entries source copy) = entry_terms copy ≡ take (length (entry_terms copy)) (entry_terms source.now)
IsFront (kinds.Members _ source copy) = member_terms copy ≡ take (length (member_terms copy)) (member_terms source.now)

-- a list has the next one of the items of another behind its own
abbrev pub IsLonger : {X : Type 0} → List X → List X → List X → Type 0
IsLonger {X} source old new = (item : X) × (slice_get source (length old) ≡ Some item) × (new ≡ old ++ item ∷ [])

-- a value is copied at once, or its copy is begun
abbrev pub IsBegun : IdlTerm → Begun → Type 0
IsBegun term (begins.Whole copy) = idl_term copy ≡ term
IsBegun term (begins.Within copying) = (source_term copying ≡ term) × (copied copying ≡ 0) × IsFront copying
