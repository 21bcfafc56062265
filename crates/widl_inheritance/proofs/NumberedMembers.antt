-- The members of the interface that a name means are those at its number.
use Rattle.std.proofs.Common.{◌≡◌, ◌⊎◌, inl, inr, ℕ, Bool, true, false, cond, ◌&&◌, List, [], flat_map, nat_eq, slice_get, Option, None, Some, option_map, arith, refl, sym, ap, ◌∙◌, Bor, length, map}
use Rattle.std.proofs.lemmas.List.{length-map}
use Rattle.std.proofs.lemmas.Slice.Eq.{bytes_eq-Decides}
use Rattle.widl_idl.specs.declared.kind.Kind.{Kind}
use Rattle.widl_idl.specs.declared.kind.Kind.TheVariants as kinds
use Rattle.widl_idl.specs.declared.tree.definitions.Definition.{Definition}
use Rattle.widl_idl.specs.Meanings.{is_text_of, kind_of, main_name, meaning, meant}
use Rattle.widl_idl.specs.MergingRules.{is_number}
use Rattle.widl_idl.specs.Parts.{members_in, merged_members}
use Rattle.widl_idl.specs.PlainTypes.{PlainName}
use Rattle.widl_idl.specs.PlainTrees.{PlainDefinition, PlainKind, definition_of, plain_definitions}
use Rattle.widl_inheritance.specs.InterfaceMembers.{is_meant_interface, members_at, members_named, members_of_kind}
use Rattle.widl_names.specs.PartTables.{ListsParts, means_itself}
use Rattle.widl_names.proofs.KeptMembers.{merged_listed}
use Rattle.widl_names.proofs.NamedParts.{meaning_named, meant_at}
use Rattle.widl_names.proofs.PlainLists.{listed_same}
use Rattle.widl_names.proofs.Pushed.{some_is}
use Rattle.widl_overload.specs.rules.IterableRules.{IsInterface, members_of_interface}
use Rattle.widl_overload.specs.rules.MemberRules.{is_interface_kind}

both_true : (a b : Bool) → (a && b) ≡ true → (a ≡ true) × (b ≡ true)
both_true true b e = (refl, e)
both_true false b e = absurd (cc)

number_is : (found : Option ℕ) (number : ℕ) → is_number number found ≡ true → found ≡ Some number
number_is None number e = absurd (cc)
number_is (Some other) number e = let same : other ≡ number = grind arith in ap Some same

same_number : (number : ℕ) → nat_eq number number ≡ true
same_number number = grind arith

kind_is_interface : (kind : Kind) → is_interface_kind kind ≡ true → kind ≡ kinds.Interface
kind_is_interface kinds.Interface e = refl
kind_is_interface kind e = absurd (cc)

named_text : (text : List ℕ) (found : Option PlainName) → is_text_of text found ≡ true → (name : PlainName) × (found ≡ Some name) × (name.text ≡ text)
named_text text None e = absurd (cc)
named_text text (Some name) e = (name, refl, grind (arith, bytes_eq-Decides name.text text))

module _ (definitions : List PlainDefinition) (number : ℕ) where
  -- the kind of the definition of this number
  abbrev found_kind : Option PlainDefinition → Option PlainKind
  found_kind found = option_map (λ (d : PlainDefinition). d.kind) found

  -- a definition that is an interface which its name means
  record IsMeant (kind : PlainKind) : Type 0 where
    name : PlainName
    is_main : main_name kind ≡ Some name
    means : meaning definitions name.text ≡ Some number
    of_kind : kind_of kind ≡ kinds.Interface

  meant_by : (kind : PlainKind) (name : Option PlainName) → main_name kind ≡ name → kind_of kind ≡ kinds.Interface → means_itself definitions number name ≡ true → IsMeant kind
  meant_by kind None is its e = absurd (cc)
  meant_by kind (Some name) is its e = record { name = name; is_main = is; means = number_is (meaning definitions name.text) number e; of_kind = its }

  is_meant : (kind : PlainKind) → is_meant_interface definitions number kind ≡ true → IsMeant kind
  is_meant kind e =
      let both = both_true (is_interface_kind (kind_of kind)) (means_itself definitions number (main_name kind)) e in
      meant_by kind (main_name kind) refl (kind_is_interface (kind_of kind) both.0) both.1

  -- its members are those of its name
  meant_members : (kind : PlainKind) (name : PlainName) → kind_of kind ≡ kinds.Interface → main_name kind ≡ Some name → meaning definitions name.text ≡ Some number → members_of_kind definitions number (Some kind) ≡ merged_members definitions kinds.Interface name.text
  meant_members kind name its is means =
      ap (λ k. cond (is_interface_kind k && means_itself definitions number (main_name kind)) (members_named definitions (main_name kind)) []) its
      ∙ ap (λ n. cond (means_itself definitions number n) (members_named definitions n) []) is
      ∙ ap (λ o. cond (is_number number o) (merged_members definitions kinds.Interface name.text) []) means
      ∙ ap (λ b. cond b (merged_members definitions kinds.Interface name.text) []) (same_number number)

  kind_there : (kind : PlainKind) → found_kind (slice_get definitions number) ≡ Some kind → members_at definitions number ≡ members_of_kind definitions number (Some kind)
  unfolding members_at
  kind_there kind e = ap (members_of_kind definitions number) e

  -- none are listed where there is no definition
  pub none_there : found_kind (slice_get definitions number) ≡ None → members_at definitions number ≡ []
  unfolding members_at
  none_there e = ap (members_of_kind definitions number) e

  -- or where it is no such interface
  pub none_meant : (kind : PlainKind) → found_kind (slice_get definitions number) ≡ Some kind → is_meant_interface definitions number kind ≡ false → members_at definitions number ≡ []
  none_meant kind there e = kind_there kind there ∙ ap (λ b. cond b (members_named definitions (main_name kind)) []) e

  found_means : (found : Option PlainDefinition) (kind : PlainKind) (text : List ℕ) → slice_get definitions number ≡ found → found_kind found ≡ Some kind → meaning definitions text ≡ Some number → meant definitions text ≡ Some kind
  found_means None kind text is e means = absurd (cc)
  found_means (Some d) kind text is e means = meant_at definitions number text d means is ∙ e

  -- the members of the parts that are listed are those at the number
  pub parts_listed : (kind : PlainKind) (list : List PlainKind) → found_kind (slice_get definitions number) ≡ Some kind → is_meant_interface definitions number kind ≡ true → ListsParts definitions number list → flat_map members_in list ≡ members_at definitions number
  parts_listed kind list there e lists =
      let m = is_meant kind e in
      let main : meant definitions m.name.text ≡ Some kind = found_means (slice_get definitions number) kind m.name.text refl there m.means in
      merged_listed definitions number m.name.text kinds.Interface list lists m.means (ap (option_map kind_of) main ∙ ap Some m.of_kind) refl
      ∙ sym (kind_there kind there ∙ meant_members kind m.name m.of_kind m.is_main m.means)

  -- the interface of a name has the members at its number
  pub members_named_at : (text : List ℕ) → IsInterface definitions text number → members_at definitions number ≡ members_of_interface definitions text
  members_named_at text h =
      let m = meaning_named definitions number text h.means in
      let name = named_text text (main_name m.definition.kind) m.named in
      let its : kind_of m.definition.kind ≡ kinds.Interface = some_is (sym (ap (option_map kind_of) (meant_at definitions number text m.definition h.means m.is)) ∙ h.kind_is) in
      kind_there m.definition.kind (ap found_kind m.is)
      ∙ meant_members m.definition.kind name.0 its name.1 (ap (meaning definitions) name.2 ∙ h.means)
      ∙ ap (merged_members definitions kinds.Interface) name.2

  -- the interface that has the members at a number
  pub record NamedAt : Type 0 where
    pub text : List ℕ
    pub is : IsInterface definitions text number
    pub members : members_at definitions number ≡ members_of_interface definitions text

  named_meant : (d : PlainDefinition) → slice_get definitions number ≡ Some d → IsMeant d.kind → NamedAt
  named_meant d is m = record {
    text = m.name.text;
    is = record { means = m.means; kind_is = ap (option_map kind_of) (meant_at definitions number m.name.text d m.means is) ∙ ap Some m.of_kind };
    members = kind_there d.kind (ap found_kind is) ∙ meant_members d.kind m.name m.of_kind m.is_main m.means;
  }

  by_test : (d : PlainDefinition) (b : Bool) → slice_get definitions number ≡ Some d → is_meant_interface definitions number d.kind ≡ b → (members_at definitions number ≡ []) ⊎ NamedAt
  by_test d true is e = inr (named_meant d is (is_meant d.kind e))
  by_test d false is e = inl (none_meant d.kind (ap found_kind is) e)

  by_found : (found : Option PlainDefinition) → slice_get definitions number ≡ found → (members_at definitions number ≡ []) ⊎ NamedAt
  by_found None is = inl (none_there (ap found_kind is))
  by_found (Some d) is = by_test d (is_meant_interface definitions number d.kind) is refl

  -- there are none, or they are those of an interface that its name means
  pub named_at : (members_at definitions number ≡ []) ⊎ NamedAt
  named_at = by_found (slice_get definitions number) refl

-- as many definitions are listed as there are
pub all_counted : (list : List (Bor Definition)) (definitions : List Definition) → map (λ d. d.now) list ≡ definitions → length list ≡ length (plain_definitions definitions)
all_counted list definitions e = sym (length-map list (λ d. definition_of d.now)) ∙ ap length (listed_same list definitions e)
