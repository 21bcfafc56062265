-- The members that are kept under the number of a dictionary are those of the dictionary that a name means.
use Rattle.std.proofs.Common.{◌≡◌, ℕ, ◌<◌, ◌++◌, Bool, true, false, cond, ◌&&◌, List, [], ◌∷◌, length, map, filter, flat_map, Option, None, Some, option_map, refl, sym, ap, ◌∙◌}
use Rattle.widl_idl.specs.declared.kind.Kind.TheVariants as kinds
use Rattle.widl_idl.specs.PlainTrees.{PlainDefinition, PlainKind, DictionaryDefinition}
use Rattle.widl_idl.specs.Meanings.{is_text_of, kind_of, meaning, meant, meant_kind, partial_name}
use Rattle.widl_idl.specs.MergingRules.{is_number}
use Rattle.widl_idl.specs.Parts.{adds_to, dictionary_members_in, is_dictionary, merged_dictionary_members, parts_beside}
use Rattle.widl_names.specs.PartTables.{number_meant, number_named}
use Rattle.widl_names.proofs.NamedParts.{meaning_named, meant_at, name_agrees, number_below}
use Rattle.widl_names.proofs.Pushed.{some_is}
use Rattle.widl_merge.specs.DictionaryTables.{dictionary_extended, extension_at, members_at, members_of_part}

-- a partial dictionary adds to what its name means, if that is a dictionary
extended_named : (definitions : List PlainDefinition) (part : PlainKind) → dictionary_extended definitions part ≡ cond (is_dictionary part) (number_named definitions kinds.Dictionary (partial_name part)) None
extended_named definitions (DictionaryDefinition d) = by_partial d.partial
  where
    by_partial : (b : Bool) → cond b (number_meant definitions kinds.Dictionary d.name.text) None ≡ number_named definitions kinds.Dictionary (cond b (Some d.name) None)
    by_partial true = refl
    by_partial false = refl
extended_named definitions part = refl

below_by : (b : Bool) (definitions : List PlainDefinition) (found : Option ℕ) (number : ℕ) → (found ≡ Some number → number < length definitions) → cond b found None ≡ Some number → number < length definitions
below_by true definitions found number below e = below e
below_by false definitions found number below e = absurd (cc)

-- the dictionary that a partial one adds to is one of the definitions
pub extended_below : (definitions : List PlainDefinition) (part : PlainKind) (number : ℕ) → dictionary_extended definitions part ≡ Some number → number < length definitions
extended_below definitions part number e =
    below_by (is_dictionary part) definitions (number_named definitions kinds.Dictionary (partial_name part)) number (number_below definitions kinds.Dictionary (partial_name part) number) (sym (extended_named definitions part) ∙ e)

is_dictionary_kind : (part : PlainKind) → kind_of part ≡ kinds.Dictionary → is_dictionary part ≡ true
is_dictionary_kind (DictionaryDefinition d) e = refl
is_dictionary_kind part e = absurd (cc)

module _ (definitions : List PlainDefinition) (number : ℕ) (text : List ℕ) (means : meaning definitions text ≡ Some number) (is : meant_kind definitions text ≡ Some kinds.Dictionary) where
  test_by : (b : Bool) (part : PlainKind) → (b && is_text_of text (partial_name part)) ≡ is_number number (cond b (number_named definitions kinds.Dictionary (partial_name part)) None)
  test_by true part = name_agrees definitions number text kinds.Dictionary means is kinds.Dictionary (partial_name part)
  test_by false part = refl

  -- a definition is one of the dictionary's partials, or adds to nothing or to another one
  extended_agrees : (part : PlainKind) → adds_to is_dictionary text part ≡ is_number number (dictionary_extended definitions part)
  extended_agrees part = test_by (is_dictionary part) part ∙ ap (is_number number) (sym (extended_named definitions part))

  put_by : (b : Bool) (part : PlainKind) (parts : List PlainKind) → cond b (part ∷ parts) parts ≡ cond b (part ∷ []) [] ++ parts
  put_by true part parts = refl
  put_by false part parts = refl

  extensions_listed : (some : List PlainDefinition) → filter (adds_to is_dictionary text) (map (λ d. d.kind) some) ≡ flat_map (extension_at definitions number) some
  extensions_listed [] = refl
  extensions_listed (d ∷ some) =
      ap (λ parts. cond (adds_to is_dictionary text d.kind) (d.kind ∷ parts) parts) (extensions_listed some)
      ∙ ap (λ b. cond b (d.kind ∷ flat_map (extension_at definitions number) some) (flat_map (extension_at definitions number) some)) (extended_agrees d.kind)
      ∙ put_by (is_number number (dictionary_extended definitions d.kind)) d.kind (flat_map (extension_at definitions number) some)

  -- the members of the dictionary of this number are those of the one that the name means
  pub members_listed : members_at definitions number ≡ merged_dictionary_members definitions text
  members_listed =
      let here = meaning_named definitions number text means in
      let main : meant definitions text ≡ Some here.definition.kind = meant_at definitions number text here.definition means here.is in
      let its_kind : kind_of here.definition.kind ≡ kinds.Dictionary = some_is (sym (ap (option_map kind_of) main) ∙ is) in
      let more = flat_map (extension_at definitions number) definitions in
      ap (λ found. members_of_part (option_map (λ (d : PlainDefinition). d.kind) found) ++ flat_map dictionary_members_in more) here.is
      ∙ ap (λ parts. flat_map dictionary_members_in (here.definition.kind ∷ parts)) (sym (extensions_listed definitions))
      ∙ ap (λ b. flat_map dictionary_members_in (cond b (here.definition.kind ∷ filter (adds_to is_dictionary text) (map (λ d. d.kind) definitions)) [])) (sym (is_dictionary_kind here.definition.kind its_kind))
      ∙ ap (λ found. flat_map dictionary_members_in (parts_beside is_dictionary definitions text found)) (sym main)
