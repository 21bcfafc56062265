-- The parts that are kept under the number of a definition are those of the definition that a name means.
use Rattle.std.proofs.Common.{◌≡◌, ◌⊎◌, inl, inr, ℕ, ◌+◌, ◌<◌, ◌++◌, Bool, true, false, cond, ◌&&◌, List, [], ◌∷◌, length, map, filter, flat_map, slice_get, nat_eq, bytes_eq, suc, Option, None, Some, option_map, option_and_then, option_to_list, arith, refl, sym, ap, subst, ◌∙◌, append-nil}
use Rattle.std.proofs.lemmas.List.Elements.{filter-append}
use Rattle.std.proofs.lemmas.Grind.{flat_map-append}
use Rattle.std.proofs.lemmas.Option.{slice_get_within}
use Rattle.std.proofs.Math.Bool.{and-false}
use Rattle.std.proofs.lemmas.Slice.Eq.{bytes_eq-Decides}
use Rattle.widl_idl.specs.declared.kind.Kind.{Kind}
use Rattle.widl_idl.specs.declared.kind.Kind.TheVariants as kinds
use Rattle.widl_idl.specs.PlainTypes.{PlainName}
use Rattle.widl_idl.specs.PlainTrees.{PlainDefinition, PlainKind, InterfaceDefinition, MixinDefinition, NamespaceDefinition, IncludesStatement}
use Rattle.widl_idl.specs.Meanings.{is_text_of, kind_of, same_kind, main_name, partial_name, meaning, meaning_from, meant, meant_kind}
use Rattle.widl_idl.specs.MergingRules.{is_kind, is_number}
use Rattle.widl_idl.specs.Parts.{adds_to, is_interface, is_mixin, is_namespace, mixed_parts, own_parts, parts_beside, parts_mixed_by, parts_of}
use Rattle.widl_names.specs.PartTables.{has_members, has_parts, listed_at, mixes_in, mixes_into, mixin_at, number_meant, number_named, own_at, owner_of, part_kept, partial_at}
use Rattle.widl_names.proofs.Pushed.{some_is}

-- the definition of this number has the text for its name
pub record IsNamed (definitions : List PlainDefinition) (number : ℕ) (text : List ℕ) : Type 0 where
  pub definition : PlainDefinition
  pub is : slice_get definitions number ≡ Some definition
  pub named : is_text_of text (main_name definition.kind) ≡ true

-- the same, where the definitions are counted from a number on
record IsNamedFrom (first : ℕ) (definitions : List PlainDefinition) (number : ℕ) (text : List ℕ) : Type 0 where
  index : ℕ
  place : number ≡ first + index
  there : IsNamed definitions index text

named_later : (first : ℕ) (d : PlainDefinition) (definitions : List PlainDefinition) (number : ℕ) (text : List ℕ) → IsNamedFrom (first + 1) definitions number text → IsNamedFrom first (d ∷ definitions) number text
named_later first d definitions number text n = let place = n.place in record { index = suc n.index; place = omega arith; there = record { definition = n.there.definition; is = n.there.is; named = n.there.named } }

named_by : (b : Bool) (first : ℕ) (d : PlainDefinition) (definitions : List PlainDefinition) (number : ℕ) (text : List ℕ) → is_text_of text (main_name d.kind) ≡ b → (meaning_from (first + 1) definitions text ≡ Some number → IsNamedFrom (first + 1) definitions number text)
    → cond b (Some first) (meaning_from (first + 1) definitions text) ≡ Some number → IsNamedFrom first (d ∷ definitions) number text
named_by true first d definitions number text h later e = let same : first ≡ number = some_is e in record { index = 0; place = omega arith; there = record { definition = d; is = refl; named = h } }
named_by false first d definitions number text h later e = named_later first d definitions number text (later e)

named_from : (first : ℕ) (definitions : List PlainDefinition) (number : ℕ) (text : List ℕ) → meaning_from first definitions text ≡ Some number → IsNamedFrom first definitions number text
named_from first [] number text e = absurd (cc)
named_from first (d ∷ definitions) number text e = named_by (is_text_of text (main_name d.kind)) first d definitions number text refl (named_from (first + 1) definitions number text) e

-- what a name means has the name
pub meaning_named : (definitions : List PlainDefinition) (number : ℕ) (text : List ℕ) → meaning definitions text ≡ Some number → IsNamed definitions number text
meaning_named definitions number text e = let n = named_from 0 definitions number text e in let place = n.place in let same : n.index ≡ number = omega arith in subst (λ k. IsNamed definitions k text) same n.there

pub meaning_below : (definitions : List PlainDefinition) (number : ℕ) (text : List ℕ) → meaning definitions text ≡ Some number → number < length definitions
meaning_below definitions number text e = let n = meaning_named definitions number text e in slice_get_within definitions number n.definition n.is

one_text : (name : Option PlainName) (text other : List ℕ) → is_text_of text name ≡ true → is_text_of other name ≡ true → text ≡ other
one_text None text other s t = absurd (cc)
one_text (Some name) text other s t = grind (arith, bytes_eq-Decides name.text text, bytes_eq-Decides name.text other)

-- names that mean one definition are one
pub one_name : (definitions : List PlainDefinition) (number : ℕ) (text other : List ℕ) → meaning definitions text ≡ Some number → meaning definitions other ≡ Some number → text ≡ other
one_name definitions number text other s t =
    let m = meaning_named definitions number text s in
    let n = meaning_named definitions number other t in
    let same : n.definition ≡ m.definition = some_is (sym n.is ∙ m.is) in
    one_text (main_name m.definition.kind) text other m.named (subst (λ d. is_text_of other (main_name d.kind) ≡ true) same n.named)

pub meant_at : (definitions : List PlainDefinition) (number : ℕ) (text : List ℕ) (d : PlainDefinition) → meaning definitions text ≡ Some number → slice_get definitions number ≡ Some d → meant definitions text ≡ Some d.kind
meant_at definitions number text d e is = ap (λ o. option_map (λ (x : PlainDefinition). x.kind) (option_and_then (slice_get definitions) o)) e ∙ ap (option_map (λ (x : PlainDefinition). x.kind)) is

-- the number of a definition of a kind
number_by : (b : Bool) (found : Option ℕ) (number : ℕ) → cond b found None ≡ Some number → (b ≡ true) × (found ≡ Some number)
number_by true found number e = (refl, e)
number_by false found number e = absurd (cc)

pub number_meant_is : (definitions : List PlainDefinition) (kind : Kind) (text : List ℕ) (number : ℕ) → number_meant definitions kind text ≡ Some number → (is_kind kind (meant_kind definitions text) ≡ true) × (meaning definitions text ≡ Some number)
number_meant_is definitions kind text number e = number_by (is_kind kind (meant_kind definitions text)) (meaning definitions text) number e

pub number_below : (definitions : List PlainDefinition) (kind : Kind) (name : Option PlainName) (number : ℕ) → number_named definitions kind name ≡ Some number → number < length definitions
number_below definitions kind None number e = absurd (cc)
number_below definitions kind (Some name) number e = meaning_below definitions number name.text (number_meant_is definitions kind name.text number e).1

owner_by : (b : Bool) (definitions : List PlainDefinition) (found : Option ℕ) (number : ℕ) → (found ≡ Some number → number < length definitions) → cond b found None ≡ Some number → number < length definitions
owner_by true definitions found number below e = below e
owner_by false definitions found number below e = absurd (cc)

-- the owner of a part is one of the definitions
pub owner_below : (definitions : List PlainDefinition) (part : PlainKind) (number : ℕ) → owner_of definitions part ≡ Some number → number < length definitions
owner_below definitions part number e = owner_by (has_members part) definitions (number_named definitions (kind_of part) (partial_name part)) number (number_below definitions (kind_of part) (partial_name part) number) e

number_here : (b : Bool) (number : ℕ) → (b && true) ≡ is_number number (cond b (Some number) None)
number_here true number = sym (grind arith)
number_here false number = refl

not_number : (found : Option ℕ) (number : ℕ) → (found ≡ Some number → ⊥) → is_number number found ≡ false
not_number None number never = refl
not_number (Some other) number never = by_test (nat_eq number other) refl
  where
    by_test : (b : Bool) → nat_eq number other ≡ b → nat_eq number other ≡ false
    by_test true h = let same : other ≡ number = grind arith in absurd (never (ap Some same))
    by_test false h = h

same_itself : (kind : Kind) → same_kind kind kind ≡ true
same_itself kinds.CallbackFunction = refl
same_itself kind = refl

-- a name of the kind is the one that means the number, or it means another number
module _ (definitions : List PlainDefinition) (number : ℕ) (text : List ℕ) (kind : Kind) (means : meaning definitions text ≡ Some number) (is : meant_kind definitions text ≡ Some kind) where
  named_test : (other : Kind) (name : PlainName) (b : Bool) → bytes_eq name.text text ≡ b → (same_kind other kind && b) ≡ is_number number (number_meant definitions other name.text)
  named_test other name true h =
      let same : text ≡ name.text = grind (arith, bytes_eq-Decides name.text text) in
      number_here (same_kind other kind) number ∙ ap (λ found. is_number number (cond (same_kind other kind) found None)) (sym means)
      ∙ ap (λ k. is_number number (cond (is_kind other k) (meaning definitions text) None)) (sym is) ∙ ap (λ words. is_number number (number_meant definitions other words)) same
  named_test other name false h =
      and-false (same_kind other kind)
      ∙ sym (not_number (number_meant definitions other name.text) number (λ e. let same : name.text ≡ text = one_name definitions number name.text text (number_meant_is definitions other name.text number e).1 means in grind (arith, bytes_eq-Decides name.text text)))

  pub name_agrees : (other : Kind) (name : Option PlainName) → (same_kind other kind && is_text_of text name) ≡ is_number number (number_named definitions other name)
  name_agrees other None = and-false (same_kind other kind)
  name_agrees other (Some name) = named_test other name (bytes_eq name.text text) refl

  owner_test : (b : Bool) (other : Kind) (name : Option PlainName) → (b && (same_kind other kind && is_text_of text name)) ≡ is_number number (cond b (number_named definitions other name) None)
  owner_test true other name = name_agrees other name
  owner_test false other name = refl

  module _ (is_one : PlainKind → Bool) (agrees : (part : PlainKind) → is_one part ≡ same_kind (kind_of part) kind) where
    -- a part with members is one of the definition's partials, or has another owner
    owner_agrees : (part : PlainKind) → (has_members part && adds_to is_one text part) ≡ is_number number (owner_of definitions part)
    owner_agrees part = ap (λ b. has_members part && (b && is_text_of text (partial_name part))) (agrees part) ∙ owner_test (has_members part) (kind_of part) (partial_name part)

    kept_by : (a h o : Bool) (part : PlainKind) (found rest : List PlainKind) → has_members part ≡ h → (h && a) ≡ o → filter has_members found ≡ rest → filter has_members (cond a (part ∷ found) found) ≡ cond o (part ∷ []) [] ++ rest
    kept_by true true o part found rest has e so = ap (λ b. cond b (part ∷ filter has_members found) (filter has_members found)) has ∙ ap (λ parts. part ∷ parts) so ∙ ap (λ b. cond b (part ∷ []) [] ++ rest) e
    kept_by true false o part found rest has e so = ap (λ b. cond b (part ∷ filter has_members found) (filter has_members found)) has ∙ so ∙ ap (λ b. cond b (part ∷ []) [] ++ rest) e
    kept_by false h o part found rest has e so = so ∙ ap (λ b. cond b (part ∷ []) [] ++ rest) (sym (and-false h) ∙ e)

    partials_listed : (some : List PlainDefinition) → filter has_members (filter (adds_to is_one text) (map (λ d. d.kind) some)) ≡ flat_map (partial_at definitions number) some
    partials_listed [] = refl
    partials_listed (d ∷ some) = kept_by (adds_to is_one text d.kind) (has_members d.kind) (is_number number (owner_of definitions d.kind)) d.kind (filter (adds_to is_one text) (map (λ x. x.kind) some)) (flat_map (partial_at definitions number) some) refl (owner_agrees d.kind) (partials_listed some)

    main_by : (b h : Bool) (main : PlainKind) (more rest : List PlainKind) → has_members main ≡ h → b ≡ true → filter has_members more ≡ rest → filter has_members (cond b (main ∷ more) []) ≡ cond h (main ∷ []) [] ++ rest
    main_by true true main more rest has e so = ap (λ b. cond b (main ∷ filter has_members more) (filter has_members more)) has ∙ ap (λ parts. main ∷ parts) so
    main_by true false main more rest has e so = ap (λ b. cond b (main ∷ filter has_members more) (filter has_members more)) has ∙ so
    main_by false h main more rest has e so = absurd (cc)

    -- the parts that stand under the definition's own name
    own_listed : filter has_members (own_parts is_one definitions text) ≡ own_at definitions number
    own_listed =
        let here = meaning_named definitions number text means in
        let main : meant definitions text ≡ Some here.definition.kind = meant_at definitions number text here.definition means here.is in
        let its_kind : kind_of here.definition.kind ≡ kind = some_is (sym (ap (option_map kind_of) main) ∙ is) in
        let of_kind : is_one here.definition.kind ≡ true = agrees here.definition.kind ∙ ap (λ k. same_kind k kind) its_kind ∙ same_itself kind in
        ap (λ found. filter has_members (parts_beside is_one definitions text found)) main
        ∙ main_by (is_one here.definition.kind) (has_members here.definition.kind) here.definition.kind (filter (adds_to is_one text) (map (λ d. d.kind) definitions)) (flat_map (partial_at definitions number) definitions) refl of_kind (partials_listed definitions)
        ∙ ap (λ found. part_kept (option_map (λ (d : PlainDefinition). d.kind) found) ++ flat_map (partial_at definitions number) definitions) (sym here.is)

interface_agrees : (part : PlainKind) → is_interface part ≡ same_kind (kind_of part) kinds.Interface
interface_agrees (InterfaceDefinition i) = refl
interface_agrees part = refl

mixin_agrees : (part : PlainKind) → is_mixin part ≡ same_kind (kind_of part) kinds.Mixin
mixin_agrees (MixinDefinition m) = refl
mixin_agrees part = refl

namespace_agrees : (part : PlainKind) → is_namespace part ≡ same_kind (kind_of part) kinds.Namespace
namespace_agrees (NamespaceDefinition n) = refl
namespace_agrees part = refl

mixin_either_way : (kind : Kind) → same_kind kind kinds.Mixin ≡ same_kind kinds.Mixin kind
mixin_either_way kinds.Mixin = refl
mixin_either_way kind = refl

mixin_is : (found : Option Kind) → is_kind kinds.Mixin found ≡ true → found ≡ Some kinds.Mixin
mixin_is None e = absurd (cc)
mixin_is (Some kinds.Mixin) e = refl
mixin_is (Some kind) e = absurd (cc)

interface_is : (found : Option Kind) → is_kind kinds.Interface found ≡ true → found ≡ Some kinds.Interface
interface_is None e = absurd (cc)
interface_is (Some kinds.Interface) e = refl
interface_is (Some kind) e = absurd (cc)

not_mixin : (definitions : List PlainDefinition) (text : List ℕ) (main : Option PlainKind) → is_kind kinds.Mixin (option_map kind_of main) ≡ false → parts_beside is_mixin definitions text main ≡ []
not_mixin definitions text None e = refl
not_mixin definitions text (Some main) e = ap (λ b. cond b (main ∷ filter (adds_to is_mixin text) (map (λ d. d.kind) definitions)) []) (mixin_agrees main ∙ mixin_either_way (kind_of main) ∙ e)

no_number : (b : Bool) (found : Option ℕ) → cond b found None ≡ None → (b ≡ false) ⊎ (found ≡ None)
no_number true found e = inr e
no_number false found e = inl refl

-- the parts of the mixin that a name means, if it means one
mixin_listed : (definitions : List PlainDefinition) (text : List ℕ) (found : Option ℕ) → number_meant definitions kinds.Mixin text ≡ found → filter has_members (own_parts is_mixin definitions text) ≡ flat_map (own_at definitions) (option_to_list found)
mixin_listed definitions text (Some number) e =
    let means = number_meant_is definitions kinds.Mixin text number e in
    own_listed definitions number text kinds.Mixin means.1 (mixin_is (meant_kind definitions text) means.0) is_mixin mixin_agrees ∙ sym (append-nil (own_at definitions number))
mixin_listed definitions text None e =
    ap (filter has_members) (elim (no_number (is_kind kinds.Mixin (meant_kind definitions text)) (meaning definitions text) e) [
      | inl other ↦ not_mixin definitions text (meant definitions text) other
      | inr nothing ↦ ap (λ found. parts_beside is_mixin definitions text (option_map (λ (d : PlainDefinition). d.kind) (option_and_then (slice_get definitions) found))) nothing
    ])

module _ (definitions : List PlainDefinition) (number : ℕ) (text : List ℕ) (means : meaning definitions text ≡ Some number) where
  module _ (is : meant_kind definitions text ≡ Some kinds.Interface) where
    mixed_by : (b : Bool) (mixin : List ℕ) → filter has_members (cond b (own_parts is_mixin definitions mixin) []) ≡ flat_map (own_at definitions) (cond b (option_to_list (number_meant definitions kinds.Mixin mixin)) [])
    mixed_by true mixin = mixin_listed definitions mixin (number_meant definitions kinds.Mixin mixin) refl
    mixed_by false mixin = refl

    mixed_part : (part : PlainKind) → filter has_members (parts_mixed_by definitions text part) ≡ flat_map (own_at definitions) (cond (is_number number (mixes_into definitions part)) (mixes_in definitions part) [])
    mixed_part (IncludesStatement i) =
        mixed_by (bytes_eq i.interface.text text) i.mixin.text
        ∙ ap (λ b. flat_map (own_at definitions) (cond b (option_to_list (number_meant definitions kinds.Mixin i.mixin.text)) [])) (name_agrees definitions number text kinds.Interface means is kinds.Interface (Some i.interface))
    mixed_part part = refl

    mixed_listed : (some : List PlainDefinition) → filter has_members (flat_map (λ (d : PlainDefinition). parts_mixed_by definitions text d.kind) some) ≡ flat_map (own_at definitions) (flat_map (mixin_at definitions number) some)
    mixed_listed [] = refl
    mixed_listed (d ∷ some) =
        filter-append has_members (parts_mixed_by definitions text d.kind) (flat_map (λ (x : PlainDefinition). parts_mixed_by definitions text x.kind) some)
        ∙ ap (λ parts. parts ++ filter has_members (flat_map (λ (x : PlainDefinition). parts_mixed_by definitions text x.kind) some)) (mixed_part d.kind)
        ∙ ap (λ parts. flat_map (own_at definitions) (mixin_at definitions number d) ++ parts) (mixed_listed some)
        ∙ sym (flat_map-append (own_at definitions) (mixin_at definitions number d) (flat_map (mixin_at definitions number) some))

    interface_listed : listed_at definitions number ≡ filter has_members (parts_of definitions kinds.Interface text)
    interface_listed =
        sym (filter-append has_members (own_parts is_interface definitions text) (mixed_parts definitions text)
        ∙ ap (λ parts. parts ++ filter has_members (mixed_parts definitions text)) (own_listed definitions number text kinds.Interface means is is_interface interface_agrees)
        ∙ ap (λ parts. own_at definitions number ++ parts) (mixed_listed definitions))

  module _ (kind : Kind) (is : meant_kind definitions text ≡ Some kind) (other : Some kind ≡ Some kinds.Interface → ⊥) where
    not_mixed : (part : PlainKind) → is_number number (mixes_into definitions part) ≡ false
    not_mixed (IncludesStatement i) = not_number (number_meant definitions kinds.Interface i.interface.text) number (λ e.
        let found = number_meant_is definitions kinds.Interface i.interface.text number e in
        let same : i.interface.text ≡ text = one_name definitions number i.interface.text text found.1 means in
        other (sym is ∙ ap (meant_kind definitions) (sym same) ∙ interface_is (meant_kind definitions i.interface.text) found.0))
    not_mixed part = refl

    none_mixed : (some : List PlainDefinition) → flat_map (mixin_at definitions number) some ≡ []
    none_mixed [] = refl
    none_mixed (d ∷ some) = ap (λ b. cond b (mixes_in definitions d.kind) [] ++ flat_map (mixin_at definitions number) some) (not_mixed d.kind) ∙ none_mixed some

    container_listed : (is_one : PlainKind → Bool) → ((part : PlainKind) → is_one part ≡ same_kind (kind_of part) kind) → listed_at definitions number ≡ filter has_members (own_parts is_one definitions text)
    container_listed is_one agrees =
        ap (λ mixins. own_at definitions number ++ flat_map (own_at definitions) mixins) (none_mixed definitions) ∙ append-nil (own_at definitions number)
        ∙ sym (own_listed definitions number text kind means is is_one agrees)

-- the parts that are kept under the number of a definition are those of its parts that have members
pub parts_listed : (definitions : List PlainDefinition) (number : ℕ) (text : List ℕ) (kind : Kind) → meaning definitions text ≡ Some number → meant_kind definitions text ≡ Some kind → has_parts kind ≡ true → listed_at definitions number ≡ filter has_members (parts_of definitions kind text)
parts_listed definitions number text kinds.Interface means is has = interface_listed definitions number text means is
parts_listed definitions number text kinds.Mixin means is has = container_listed definitions number text means kinds.Mixin is (λ e. absurd (cc)) is_mixin mixin_agrees
parts_listed definitions number text kinds.Namespace means is has = container_listed definitions number text means kinds.Namespace is (λ e. absurd (cc)) is_namespace namespace_agrees
parts_listed definitions number text kind means is has = absurd (cc)
