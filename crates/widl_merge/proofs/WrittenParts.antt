-- What stands in definitions of which 32 bits can count the nodes: each of their parts has few nodes.
use Rattle.std.proofs.Common.{◌≡◌, ℕ, suc, ◌+◌, ◌≤◌, ◌++◌, Bool, true, false, cond, List, [], ◌∷◌, length, map, filter, filter_map, flat_map, slice_get, Option, None, Some, option_map, option_and_then, bytes_eq, arith, refl, subst}
use Rattle.std.specs.List.{All, cons_option}
use Rattle.std.proofs.lemmas.List.{length-append}
use Rattle.std.proofs.lemmas.List.Elements.{All-nil, All-cons, All-append, All-head, All-tail, All-filter, All-map, All-get_or}
use Rattle.std.proofs.lemmas.Option.{get_or_from_slice_get, slice_get_within}
use Rattle.widl_idl.specs.Meanings.{declared_name, meaning, meant}
use Rattle.widl_idl.specs.Nodes.{CallbackMemberNode, MemberNode, nodes_inside, nodes_of, nodes_of_annotated, nodes_of_attributes, nodes_of_callback_member, nodes_of_definition, nodes_of_dictionary_member, nodes_of_member, nodes_of_member_kind, nodes_of_optional_name, nodes_of_type}
use Rattle.widl_idl.specs.Parts.{adds_to, dictionary_members_in, is_interface, is_mixin, is_namespace, members_in, mixed_parts, own_parts, parts_beside, parts_mixed_by}
use Rattle.widl_idl.specs.PlainTrees.{PlainDefinition, PlainDictionaryMember, PlainKind, PlainMember, DictionaryDefinition, IncludesStatement, InterfaceDefinition, MixinDefinition, NamespaceDefinition, TypedefDefinition}
use Rattle.widl_idl.specs.PlainTypes.{PlainAnnotated, plain_annotated}
use Rattle.widl_idl.specs.Resolution.{Typedef}
use Rattle.widl_idl.specs.WrittenTypes.{typedef_if, typedef_in_tree, typedefs}
use Rattle.widl_names.proofs.Pushed.{some_is}
use Rattle.widl_merge.proofs.NumberedMeanings.{FewTypedefs, FewWritten, Fits, fits_left, fits_rest, fits_right, type_few}

pub all_at : {X : Type 0} (P : X → Type 0) (xs : List X) (n : ℕ) (x : X) → All P xs → slice_get xs n ≡ Some x → P x
all_at P xs n x all is = subst P (get_or_from_slice_get xs n x x is) (All-get_or P xs n x (slice_get_within xs n x is) all)

-- what is found of each item
pub all_found : {X Y : Type 0} (h : X → Option Y) (P : X → Type 0) (Q : Y → Type 0) → ((x : X) (y : Y) → P x → h x ≡ Some y → Q y) → (xs : List X) → All P xs → All Q (filter_map h xs)
all_found h P Q so [] all = All-nil Q
all_found {Y = Y} h P Q so (x ∷ xs) all = by (h x) refl (all_found h P Q so xs (All-tail P x xs all))
  where
    by : (o : Option Y) → h x ≡ o → All Q (filter_map h xs) → All Q (cons_option o (filter_map h xs))
    by None is rest = rest
    by (Some y) is rest = All-cons Q y (filter_map h xs) (so x y (All-head P x xs all) is) rest

pub found_few : {X Y : Type 0} (h : X → Option Y) (xs : List X) → length (filter_map h xs) ≤ length xs
found_few h [] = omega arith
found_few {Y = Y} h (x ∷ xs) = by (h x) (found_few h xs)
  where
    by : (o : Option Y) → length (filter_map h xs) ≤ length xs → length (cons_option o (filter_map h xs)) ≤ suc (length xs)
    by None rest = omega (arith, rest)
    by (Some y) rest = omega (arith, rest)

-- the parts of definitions
abbrev pub KindFits : PlainKind → Type 0
KindFits kind = Fits (nodes_inside kind)

abbrev pub DefinitionFits : PlainDefinition → Type 0
DefinitionFits d = KindFits d.kind

abbrev pub MemberFits : PlainMember → Type 0
MemberFits m = Fits (nodes_of_member_kind m.kind)

abbrev pub DictionaryMemberFits : PlainDictionaryMember → Type 0
DictionaryMemberFits m = Fits (nodes_of_annotated m.ty)

pub definitions_fit : (definitions : List PlainDefinition) → Fits (nodes_of definitions) → All DefinitionFits definitions
definitions_fit [] fits = All-nil DefinitionFits
definitions_fit (d ∷ more) fits =
    let here = fits_right (nodes_of_attributes d.attributes) (nodes_of_optional_name (declared_name d.kind) ++ nodes_inside d.kind) (fits_left (nodes_of_definition d) (nodes_of more) fits) in
    All-cons DefinitionFits d more (fits_right (nodes_of_optional_name (declared_name d.kind)) (nodes_inside d.kind) here) (definitions_fit more (fits_right (nodes_of_definition d) (nodes_of more) fits))

-- the members that are written together
members_fit : (members : List PlainMember) → Fits (flat_map nodes_of_member members) → All MemberFits members
members_fit [] fits = All-nil MemberFits
members_fit (m ∷ more) fits =
    let here = fits_rest (MemberNode m.kind) (nodes_of_attributes m.attributes ++ nodes_of_member_kind m.kind) (fits_left (nodes_of_member m) (flat_map nodes_of_member more) fits) in
    All-cons MemberFits m more (fits_right (nodes_of_attributes m.attributes) (nodes_of_member_kind m.kind) here) (members_fit more (fits_right (nodes_of_member m) (flat_map nodes_of_member more) fits))

pub callback_members_fit : (members : List PlainMember) → Fits (flat_map nodes_of_callback_member members) → All MemberFits members
callback_members_fit [] fits = All-nil MemberFits
callback_members_fit (m ∷ more) fits =
    let here = fits_rest (CallbackMemberNode m.kind) (nodes_of_attributes m.attributes ++ nodes_of_member_kind m.kind) (fits_left (nodes_of_callback_member m) (flat_map nodes_of_callback_member more) fits) in
    All-cons MemberFits m more (fits_right (nodes_of_attributes m.attributes) (nodes_of_member_kind m.kind) here) (callback_members_fit more (fits_right (nodes_of_callback_member m) (flat_map nodes_of_callback_member more) fits))

dictionary_members_fit : (members : List PlainDictionaryMember) → Fits (flat_map nodes_of_dictionary_member members) → All DictionaryMemberFits members
dictionary_members_fit [] fits = All-nil DictionaryMemberFits
dictionary_members_fit (m ∷ more) fits =
    let here = fits_left (nodes_of_dictionary_member m) (flat_map nodes_of_dictionary_member more) fits in
    All-cons DictionaryMemberFits m more (member_fits m here) (dictionary_members_fit more (fits_right (nodes_of_dictionary_member m) (flat_map nodes_of_dictionary_member more) fits))
  where
    member_fits : (x : PlainDictionaryMember) → Fits (nodes_of_dictionary_member x) → DictionaryMemberFits x
    member_fits x fits = search (arith, length-append, fits)

kind_members : (kind : PlainKind) → KindFits kind → All MemberFits (members_in kind)
kind_members (InterfaceDefinition i) fits = members_fit i.members fits
kind_members (MixinDefinition m) fits = members_fit m.members fits
kind_members (NamespaceDefinition n) fits = members_fit n.members fits
kind_members kind fits = All-nil MemberFits

kind_dictionary_members : (kind : PlainKind) → KindFits kind → All DictionaryMemberFits (dictionary_members_in kind)
kind_dictionary_members (DictionaryDefinition d) fits = dictionary_members_fit d.members fits
kind_dictionary_members kind fits = All-nil DictionaryMemberFits

-- what is listed of each of several parts
pub all_listed_in : {X Y : Type 0} (f : X → List Y) (P : X → Type 0) (Q : Y → Type 0) → ((x : X) → P x → All Q (f x)) → (xs : List X) → All P xs → All Q (flat_map f xs)
all_listed_in f P Q so [] all = All-nil Q
all_listed_in f P Q so (x ∷ xs) all = All-append Q (f x) (flat_map f xs) (so x (All-head P x xs all)) (all_listed_in f P Q so xs (All-tail P x xs all))

module _ (definitions : List PlainDefinition) (fits : All DefinitionFits definitions) where
  kinds_fit : All KindFits (map (λ (d : PlainDefinition). d.kind) definitions)
  kinds_fit = All-map KindFits (λ (d : PlainDefinition). d.kind) definitions fits

  meant_fits : (o : Option ℕ) (main : PlainKind) → option_map (λ (d : PlainDefinition). d.kind) (option_and_then (slice_get definitions) o) ≡ Some main → KindFits main
  meant_fits None main e = absurd (cc)
  meant_fits (Some n) main e = by (slice_get definitions n) refl e
    where
      by : (o : Option PlainDefinition) → slice_get definitions n ≡ o → option_map (λ (d : PlainDefinition). d.kind) o ≡ Some main → KindFits main
      by None is e = absurd (cc)
      by (Some d) is e = subst KindFits (some_is e) (all_at DefinitionFits definitions n d fits is)

  module _ (is_one : PlainKind → Bool) (text : List ℕ) where
    beside_fits : (o : Option PlainKind) → ((main : PlainKind) → o ≡ Some main → KindFits main) → All KindFits (parts_beside is_one definitions text o)
    beside_fits None main_fits = All-nil KindFits
    beside_fits (Some main) main_fits = by (is_one main)
      where
        by : (b : Bool) → All KindFits (cond b (main ∷ filter (adds_to is_one text) (map (λ (d : PlainDefinition). d.kind) definitions)) [])
        by true = All-cons KindFits main _ (main_fits main refl) (All-filter (adds_to is_one text) KindFits (map (λ (d : PlainDefinition). d.kind) definitions) kinds_fit)
        by false = All-nil KindFits

    pub own_fit : All KindFits (own_parts is_one definitions text)
    own_fit = beside_fits (meant definitions text) (meant_fits (meaning definitions text))

  mixed_fit : (text : List ℕ) (kind : PlainKind) → All KindFits (parts_mixed_by definitions text kind)
  mixed_fit text (IncludesStatement i) = by (bytes_eq i.interface.text text)
    where
      by : (b : Bool) → All KindFits (cond b (own_parts is_mixin definitions i.mixin.text) [])
      by true = own_fit is_mixin i.mixin.text
      by false = All-nil KindFits
  mixed_fit text kind = All-nil KindFits

  all_mixed_fit : (text : List ℕ) → All KindFits (mixed_parts definitions text)
  all_mixed_fit text = all_listed_in (λ (d : PlainDefinition). parts_mixed_by definitions text d.kind) DefinitionFits KindFits (λ d so. mixed_fit text d.kind) definitions fits

  -- the members of an interface and of a namespace, put together
  pub interface_members_fit : (text : List ℕ) → All MemberFits (flat_map members_in (own_parts is_interface definitions text ++ mixed_parts definitions text))
  interface_members_fit text =
      all_listed_in members_in KindFits MemberFits kind_members (own_parts is_interface definitions text ++ mixed_parts definitions text)
      (All-append KindFits (own_parts is_interface definitions text) (mixed_parts definitions text) (own_fit is_interface text) (all_mixed_fit text))

  pub namespace_members_fit : (text : List ℕ) → All MemberFits (flat_map members_in (own_parts is_namespace definitions text))
  namespace_members_fit text = all_listed_in members_in KindFits MemberFits kind_members (own_parts is_namespace definitions text) (own_fit is_namespace text)

  pub dictionary_fits : (is_one : PlainKind → Bool) (text : List ℕ) → All DictionaryMemberFits (flat_map dictionary_members_in (own_parts is_one definitions text))
  dictionary_fits is_one text = all_listed_in dictionary_members_in KindFits DictionaryMemberFits kind_dictionary_members (own_parts is_one definitions text) (own_fit is_one text)

  -- typedefs
  typedef_few : (ty : PlainAnnotated) → Fits (nodes_of_annotated ty) → FewWritten (typedef_in_tree definitions ty).written
  typedef_few (plain_annotated at attributes inner) f = type_few definitions inner (fits_right (nodes_of_attributes attributes) (nodes_of_type inner) f)

  kind_typedef : (kind : PlainKind) (t : Typedef) → KindFits kind → typedef_if definitions kind ≡ Some t → FewWritten t.written
  kind_typedef (TypedefDefinition d) t f e = subst (λ (x : Typedef). FewWritten x.written) (some_is e) (typedef_few d.ty f)
  kind_typedef kind t f e = absurd (cc)

  pub typedefs_few : FewTypedefs (typedefs definitions)
  typedefs_few n t is = all_at (λ (x : Typedef). FewWritten x.written) (typedefs definitions) n t (all_found (λ (d : PlainDefinition). typedef_if definitions d.kind) DefinitionFits (λ (x : Typedef). FewWritten x.written) (λ d x f e. kind_typedef d.kind x f e) definitions fits) is
