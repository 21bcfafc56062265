-- The texts of values that have others in them, by the texts of these.
use Rattle.std.proofs.Common.{◌≡◌, ℕ, ◌++◌, List, [], ◌∷◌, codes, map, refl, ap, ◌∙◌}
use Rattle.widl_idl.specs.DefinitionTerms.{DefsTerm}
use Rattle.widl_value.specs.IdlTerms.{IdlTerm, idl_term, idl_terms, entry_terms, member_terms, packed_entries, packed_members, packed_values}
use Rattle.widl_value.specs.declared.idl_entries.IdlEntries.{IdlEntries}
use Rattle.widl_value.specs.declared.idl_members.IdlMembers.{IdlMembers}
use Rattle.widl_value.specs.declared.idl_values.IdlValues.{IdlValues}
use Rattle.widl_value.proofs.Dictionaries.{dictionary_term, record_term, sequence_term}
use Rattle.widl_spell.specs.Names.{separated}
use Rattle.widl_trace.specs.CalleeTexts.{name_or_nothing}
use Rattle.widl_value.specs.declared.idl_value.IdlValue as variants
use Rattle.widl_trace.specs.IdlValueTexts.{dictionary_name, element_texts, entry_text, entry_texts, idl_value_text, member_text, member_texts}

pub element_texts_are : (defs : DefsTerm) (values : List IdlTerm) → element_texts defs (packed_values values) ≡ map (idl_value_text defs) values
element_texts_are defs [] = refl
element_texts_are defs (v ∷ values) = ap (λ texts. idl_value_text defs v ∷ texts) (element_texts_are defs values)

pub entry_texts_are : (defs : DefsTerm) (entries : List (List ℕ × IdlTerm)) → entry_texts defs (packed_entries entries) ≡ map (entry_text defs) entries
entry_texts_are defs [] = refl
entry_texts_are defs (e ∷ entries) = ap (λ texts. entry_text defs e ∷ texts) (entry_texts_are defs entries)

pub member_texts_are : (defs : DefsTerm) (members : List (ℕ × ℕ × IdlTerm)) → member_texts defs (packed_members members) ≡ map (member_text defs) members
member_texts_are defs [] = refl
member_texts_are defs (m ∷ members) = ap (λ texts. member_text defs m ∷ texts) (member_texts_are defs members)

-- the text of a sequence, a record or a dictionary, by its items
pub sequence_text : (defs : DefsTerm) (values : IdlValues) → idl_value_text defs (idl_term (variants.List values)) ≡ codes "[" ++ separated (codes ", ") (map (idl_value_text defs) (idl_terms values)) ++ codes "]"
sequence_text defs values =
    ap (idl_value_text defs) (sequence_term values)
    ∙ ap (λ texts. codes "[" ++ separated (codes ", ") texts ++ codes "]") (element_texts_are defs (idl_terms values))

pub record_text : (defs : DefsTerm) (entries : IdlEntries) → idl_value_text defs (idl_term (variants.Entries entries)) ≡ codes "{" ++ separated (codes ", ") (map (entry_text defs) (entry_terms entries)) ++ codes "}"
record_text defs entries =
    ap (idl_value_text defs) (record_term entries)
    ∙ ap (λ texts. codes "{" ++ separated (codes ", ") texts ++ codes "}") (entry_texts_are defs (entry_terms entries))

pub dictionary_text : (defs : DefsTerm) (dictionary : ℕ) (members : IdlMembers) → idl_value_text defs (idl_term (variants.Dict dictionary members)) ≡ name_or_nothing (dictionary_name defs dictionary) ++ codes "{" ++ separated (codes ", ") (map (member_text defs) (member_terms members)) ++ codes "}"
dictionary_text defs dictionary members =
    ap (idl_value_text defs) (dictionary_term dictionary members)
    ∙ ap (λ texts. name_or_nothing (dictionary_name defs dictionary) ++ codes "{" ++ separated (codes ", ") texts ++ codes "}") (member_texts_are defs (member_terms members))
