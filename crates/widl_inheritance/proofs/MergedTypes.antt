-- The dictionaries in the types of the members of a merged list's dictionaries are dictionaries of the list.
use Rattle.std.proofs.Common.{◌≡◌, inl, inr, ℕ, zero, suc, ◌<◌, ◌++◌, Bool, true, false, cond, List, [], ◌∷◌, length, map, filter_map, Option, None, Some, slice_get, arith, refl, sym, ap, subst, ◌∙◌}
use Rattle.std.specs.List.{Contains, cons_option, flat_map}
use Rattle.std.specs.Option.{option_to_list}
use Rattle.std.proofs.lemmas.List.{length-map}
use Rattle.std.proofs.lemmas.List.Elements.{Contains-append_cases}
use Rattle.std.proofs.lemmas.Option.{same_Some}
use Rattle.widl_text.specs.declared.place.Place.{Place}
use Rattle.widl_fits.specs.Hierarchies.{IsHierarchy}
use Rattle.widl_fits.proofs.MergedHierarchies.{dictionary_listed, merged_hierarchy}
use Rattle.widl_graph.proofs.ParentSteps.{listed_parent, parent_step}
use Rattle.widl_idl.specs.declared.defs.Defs.{Defs}
use Rattle.widl_idl.specs.declared.kind.Kind.{Kind}
use Rattle.widl_idl.specs.declared.kind.Kind.TheVariants as kinds
use Rattle.widl_idl.specs.declared.tree.fragments.Fragment.{Fragment}
use Rattle.widl_idl.specs.declared.tree.types.Container.{Container}
use Rattle.widl_idl.specs.declared.tree.types.Container.TheVariants as container
use Rattle.widl_idl.specs.DefinitionTerms.{DefsTerm, DictTerm, MemberTerm}
use Rattle.widl_idl.specs.Meanings.{definitions_of, meaning, meant_kind}
use Rattle.widl_idl.specs.MergedList.{dictionary_if, dictionary_of, each_main}
use Rattle.widl_idl.specs.MergedMembers.{member_of}
use Rattle.widl_idl.specs.MergedSets.{IsMerged}
use Rattle.widl_idl.specs.Parts.{merged_dictionary_members}
use Rattle.widl_idl.specs.PlainTrees.{PlainDefinition, PlainDictionaryMember, PlainKind, DictionaryDefinition, TypedefDefinition}
use Rattle.widl_idl.specs.PlainTypes.{PlainName, PlainAttribute, PlainForm, PlainType, PlainAnnotated, PlainMembers, PlainNamed, PlainContainer, PlainRecord, PlainPromise, PlainUnion, plain_type, plain_annotated, no_plain, more_plain}
use Rattle.widl_idl.specs.Resolution.{Note, Typedef, WrittenType, WrittenMembers, WithoutParts, TypedefName, SequenceOf, RecordOf, PromiseOf, NullableOf, UnionOf, no_members, more_members, annotated, is_nullable_twice, nullable_of, resolved, resolved_members, resolved_typedef, typedef_in}
use Rattle.widl_idl.specs.Terms.{TypeTerm, TypeTerms, IntegerType, NullableType, StringType}
use Rattle.widl_idl.specs.WrittenTypes.{container_of, meaning_of_type, meaning_with, notes_of, nullable_if, number_among, type_of_meaning, typedef_if, typedef_in_tree, typedefs, written_form, written_members, written_type}
use Rattle.widl_overload.specs.rules.Dictionaries.{dictionaries_in, dictionaries_in_all, dictionaries_of_members, dictionary_terms}
use Rattle.widl_inheritance.specs.HoldingGraph.{AreWithin}

-- each item that is chosen from a list was made of one of its items
chosen_from : {X Y : Type 0} (choose : X → Option Y) (xs : List X) (n : ℕ) (y : Y) → slice_get (filter_map choose xs) n ≡ Some y → (x : X) × (choose x ≡ Some y)
chosen_from {X = X} {Y = Y} choose [] n y e = absurd (let f : None ≡ Some y = e in (cc))
chosen_from {X = X} {Y = Y} choose (x ∷ xs) n y e = by_choice (choose x) refl n e (λ m f. chosen_from choose xs m y f)
  where
    by_choice : (made : Option Y) → choose x ≡ made → (n : ℕ) → slice_get (cons_option made (filter_map choose xs)) n ≡ Some y → ((m : ℕ) → slice_get (filter_map choose xs) m ≡ Some y → (x : X) × (choose x ≡ Some y)) → (x : X) × (choose x ≡ Some y)
    by_choice None is m f later = later m f
    by_choice (Some z) is zero f later = (x, is ∙ f)
    by_choice (Some z) is (suc m) f later = later m f

module _ (definitions : List PlainDefinition) where
  abbrev dictionaries : List DictTerm
  dictionaries = each_main definitions (dictionary_if definitions)

  abbrev count : ℕ
  count = length dictionaries

  -- each dictionary in a type is one of the list
  abbrev Within : TypeTerm → Type 0
  Within t = (m : ℕ) → Contains (dictionaries_in t) m → m < count

  abbrev AllWithin : TypeTerms → Type 0
  AllWithin ts = (m : ℕ) → Contains (dictionaries_in_all ts) m → m < count

  abbrev mutual
    -- the same of each part of a written type that is no typedef's name
    NamesWithin : WrittenType → Type 0
    NamesWithin (WithoutParts t) = Within t
    NamesWithin (TypedefName n) = Unit {0}
    NamesWithin (SequenceOf own t) = NamesWithin t
    NamesWithin (RecordOf key own t) = NamesWithin t
    NamesWithin (PromiseOf t) = NamesWithin t
    NamesWithin (NullableOf t) = NamesWithin t
    NamesWithin (UnionOf members) = MembersWithin members

    MembersWithin : WrittenMembers → Type 0
    MembersWithin no_members = Unit {0}
    MembersWithin (more_members own t members) = NamesWithin t × MembersWithin members

  none_within : (m : ℕ) → Contains [] m → m < count
  none_within m c = absurd (let l = c.1 in omega arith)

  -- 1. What is written

  named_by : (name : PlainName) (number : Option ℕ) (kind : Option Kind) → meaning definitions name.text ≡ number → meant_kind definitions name.text ≡ kind → NamesWithin (type_of_meaning definitions number kind)
  named_by name None kind means is = none_within
  named_by name (Some k) None means is = none_within
  named_by name (Some k) (Some kinds.Typedef) means is = tt
  named_by name (Some k) (Some kinds.Dictionary) means is = λ m c. subst (λ n. n < count) (same_Some (number_among definitions kinds.Dictionary k) m (listed_parent (Some (number_among definitions kinds.Dictionary k)) m c)) (dictionary_listed definitions name.text k means is)
  named_by name (Some k) (Some kind) means is = none_within

  container_within : (kind : Container) (notes : List Note) (inner : WrittenType) → NamesWithin inner → NamesWithin (container_of kind notes inner)
  container_within container.Sequence notes inner w = w
  container_within kind notes inner w = none_within

  question_within : (question : Option Place) (t : WrittenType) → NamesWithin t → NamesWithin (nullable_if question t)
  question_within None t w = w
  question_within (Some place) t w = w

  mutual
    form_within : (form : PlainForm) → NamesWithin (written_form definitions form)
    form_within (PlainNamed name) = named_by name (meaning definitions name.text) (meant_kind definitions name.text) refl refl
    form_within (PlainContainer kind (plain_annotated at attributes inner)) = container_within kind (notes_of attributes) (written_type definitions inner) (type_within inner)
    form_within (PlainRecord key (plain_annotated at attributes inner)) = type_within inner
    form_within (PlainPromise inner) = type_within inner
    form_within (PlainUnion members) = written_within members
    form_within form = none_within

    type_within : (t : PlainType) → NamesWithin (written_type definitions t)
    type_within (plain_type at form question) = question_within question (written_form definitions form) (form_within form)

    written_within : (members : PlainMembers) → MembersWithin (written_members definitions members)
    written_within no_plain = tt
    written_within (more_plain (plain_annotated at attributes inner) more) = (type_within inner, written_within more)

  tree_within : (t : PlainAnnotated) → NamesWithin (typedef_in_tree definitions t).written
  tree_within (plain_annotated at attributes inner) = type_within inner

  one_typedef : (kind : PlainKind) (t : Typedef) → typedef_if definitions kind ≡ Some t → NamesWithin t.written
  one_typedef (TypedefDefinition d) t e = subst (λ (u : Typedef). NamesWithin u.written) (same_Some (typedef_in_tree definitions d.ty) t e) (tree_within d.ty)
  one_typedef kind t e = absurd (let f : None ≡ Some t = e in (cc))

  typedefs_within : (n : ℕ) (t : Typedef) → slice_get (typedefs definitions) n ≡ Some t → NamesWithin t.written
  typedefs_within n t e = let d = chosen_from (λ (d : PlainDefinition). typedef_if definitions d.kind) definitions n t e in one_typedef d.0.kind t d.1

  -- 2. What it means

  annotated_within : (notes : List Note) (t : TypeTerm) → Within t → Within (annotated notes t)
  annotated_within notes (IntegerType kind mode) w = none_within
  annotated_within notes (StringType kind null_empty) w = none_within
  annotated_within notes t w = w

  nullable_within : (t : TypeTerm) → Within t → Within (nullable_of t)
  nullable_within t w = by_twice (is_nullable_twice t)
    where
      by_twice : (b : Bool) → Within (cond b t (NullableType t))
      by_twice true = w
      by_twice false = w

  module _ (typedef : ℕ → List Note → TypeTerm) (known : (n : ℕ) (notes : List Note) → Within (typedef n notes)) where
    mutual
      resolved_within : (notes : List Note) (t : WrittenType) → NamesWithin t → Within (resolved typedef notes t)
      resolved_within notes (WithoutParts t) w = annotated_within notes t w
      resolved_within notes (TypedefName n) w = known n notes
      resolved_within notes (SequenceOf own t) w = resolved_within own t w
      resolved_within notes (RecordOf key own t) w = resolved_within own t w
      resolved_within notes (PromiseOf t) w = resolved_within [] t w
      resolved_within notes (NullableOf t) w = nullable_within (resolved typedef notes t) (resolved_within notes t w)
      resolved_within notes (UnionOf members) w = members_within members w

      members_within : (members : WrittenMembers) → MembersWithin members → AllWithin (resolved_members typedef members)
      members_within no_members w = none_within
      members_within (more_members own t members) w = λ m c. elim (Contains-append_cases (dictionaries_in (resolved typedef own t)) (dictionaries_in_all (resolved_members typedef members)) m c) [ inl h ↦ resolved_within own t w.0 m h | inr h ↦ members_within members w.1 m h ]

  typedef_within : (levels n : ℕ) (notes : List Note) → Within (typedef_in (typedefs definitions) levels n notes)
  typedef_within zero n notes = none_within
  typedef_within (suc levels) n notes = by_typedef (slice_get (typedefs definitions) n) refl (λ m ns. typedef_within levels m ns)
    where
      by_typedef : (found : Option Typedef) → slice_get (typedefs definitions) n ≡ found → ((m : ℕ) (ns : List Note) → Within (typedef_in (typedefs definitions) levels m ns)) → Within (resolved_typedef (typedef_in (typedefs definitions) levels) notes found)
      by_typedef None e below = none_within
      by_typedef (Some t) e below = resolved_within (typedef_in (typedefs definitions) levels) below (notes ++ t.notes) t.written (typedefs_within n t e)

  meaning_within : (notes : List Note) (t : PlainType) → Within (meaning_of_type definitions notes t)
  meaning_within notes t = resolved_within (typedef_in (typedefs definitions) (length (typedefs definitions))) (λ n ns. typedef_within (length (typedefs definitions)) n ns) notes (written_type definitions t) (type_within t)

  meant_within : (attributes : List PlainAttribute) (t : PlainAnnotated) → Within (meaning_with definitions attributes t)
  meant_within attributes (plain_annotated at own inner) = meaning_within (notes_of attributes ++ notes_of own) inner

  listed_within : (members : List PlainDictionaryMember) (m : ℕ) → Contains (flat_map (λ (t : MemberTerm). dictionaries_in t.ty) (map (member_of definitions) members)) m → m < count
  listed_within [] m c = none_within m c
  listed_within (x ∷ members) m c = elim (Contains-append_cases (dictionaries_in (meaning_with definitions x.attributes x.ty)) (flat_map (λ (t : MemberTerm). dictionaries_in t.ty) (map (member_of definitions) members)) m c) [ inl h ↦ meant_within x.attributes x.ty m h | inr h ↦ listed_within members m h ]

  one_dictionary : (kind : PlainKind) (y : DictTerm) → dictionary_if definitions kind ≡ Some y → (m : ℕ) → Contains (dictionaries_of_members y) m → m < count
  one_dictionary (DictionaryDefinition d) y e = by_partial d.partial e
    where
      by_partial : (b : Bool) → cond b None (Some (dictionary_of definitions d)) ≡ Some y → (m : ℕ) → Contains (dictionaries_of_members y) m → m < count
      by_partial true f = absurd (let g : None ≡ Some y = f in (cc))
      by_partial false f = λ m c. listed_within (merged_dictionary_members definitions d.name.text) m (subst (λ (t : DictTerm). Contains (dictionaries_of_members t) m) (sym (same_Some (dictionary_of definitions d) y f)) c)
  one_dictionary kind y e = absurd (let f : None ≡ Some y = e in (cc))

  dictionary_within : IsHierarchy dictionaries → AreWithin dictionaries
  dictionary_within hierarchy n y is =
      let d = chosen_from (λ (d : PlainDefinition). dictionary_if definitions d.kind) definitions n y is in
      record {
        inside = one_dictionary d.0.kind y d.1;
        above = λ p e. subst (λ k. p < k) (length-map dictionaries (λ (t : DictTerm). option_to_list t.parent)) (hierarchy.listed.below n p (parent_step (λ (t : DictTerm). t.parent) dictionaries n p y is e));
      }

-- the dictionaries of a merged list name none past the last of them
pub merged_within : (defs : Defs) (fragments : List Fragment) → IsMerged defs fragments → AreWithin (dictionary_terms defs)
merged_within defs fragments merged =
    let same = ap (λ (t : DefsTerm). t.dicts) merged.merged in
    subst AreWithin (sym same) (dictionary_within (definitions_of fragments) (subst IsHierarchy same (merged_hierarchy defs fragments merged)))
