-- What one owner breaks, and what all definitions break, a definition at a time.
use Rattle.std.proofs.Common.{◌≡◌, ℕ, ◌<◌, ◌++◌, Bool, true, false, cond, ◌&&◌, List, [], ◌∷◌, length, take, slice_get, flat_map, Option, None, Some, option_map, option_and_then, arith, refl, sym, ap, subst, ◌∙◌, Bor, length-take-le}
use Rattle.std.proofs.lemmas.List.{length-map}
use Rattle.std.proofs.lemmas.Option.{slice_get_within}
use Rattle.std.proofs.lemmas.Slice.Eq.{bytes_eq-Decides}
use Rattle.widl_idl.specs.declared.kind.Kind.{Kind}
use Rattle.widl_idl.specs.declared.kind.Kind.TheVariants as kinds
use Rattle.widl_idl.specs.declared.refusal.Refusal.{Refusal}
use Rattle.widl_idl.specs.declared.violation.Violation.{Violation}
use Rattle.widl_idl.specs.declared.tree.definitions.Definition.{Definition}
use Rattle.widl_idl.specs.First.{AtOne, FirstWhere}
use Rattle.widl_idl.specs.Meanings.{is_text_of, kind_of, main_name, meaning, meant, meant_kind}
use Rattle.widl_idl.specs.MergingRules.{is_number}
use Rattle.widl_idl.specs.Parts.{members_in, merged_members}
use Rattle.widl_idl.specs.PlainTypes.{PlainName}
use Rattle.widl_idl.specs.PlainTrees.{PlainDefinition, PlainKind, PlainMember, definition_of}
use Rattle.widl_first.specs.First.{Either}
use Rattle.widl_idl.proofs.Order.{first_same}
use Rattle.widl_names.specs.Listings.{listed_definitions}
use Rattle.widl_names.specs.PartTables.{ListsParts, has_parts, means_itself}
use Rattle.widl_names.proofs.KeptMembers.{merged_listed}
use Rattle.widl_names.proofs.NamedParts.{meaning_named, meant_at}
use Rattle.widl_names.proofs.Pushed.{either_pushed, some_is}
use Rattle.widl_overload.specs.declared.validity_rule.ValidityRule.{ValidityRule}
use Rattle.widl_overload.specs.declared.validity_rule.ValidityRule.TheVariants as rule
use Rattle.widl_overload.specs.rules.MemberRules.{InOneOwner, has_members_of_its_own, is_interface_kind}
use Rattle.widl_overload.specs.rules.OnMembers.{BreaksMember, ByOwner, asks, member_rules}
use Rattle.widl_member_rules.specs.Owners.{InDefinitions, InMembers, InOwnerAt, MembersBreak, OwnerBreaks, OwnersBreak, is_owner}
use Rattle.widl_refusals.specs.Refusals.{IsFirst}
use Rattle.widl_refusals.proofs.FirstRefusals.{same_breaks}

-- the kinds that a rule asks have members of their own
abbrev Narrow : (Kind → Bool) → Type 0
Narrow asked = (kind : Kind) → asked kind ≡ true → has_members_of_its_own kind ≡ true

narrow_interface : Narrow is_interface_kind
narrow_interface kinds.Interface e = refl
narrow_interface kind e = absurd (cc)

narrow : (which : ValidityRule) → Narrow (asks which)
narrow rule.KeptName = narrow_interface
narrow rule.Stringifiers = narrow_interface
narrow other = λ kind e. e

both_true : (a b : Bool) → (a && b) ≡ true → (a ≡ true) × (b ≡ true)
both_true true b e = (refl, e)
both_true false b e = absurd (cc)

both_are : (a b : Bool) → a ≡ true → b ≡ true → (a && b) ≡ true
both_are true true e f = refl
both_are true false e f = f
both_are false b e f = absurd (cc)

number_is : (found : Option ℕ) (number : ℕ) → is_number number found ≡ true → found ≡ Some number
number_is None number e = absurd (cc)
number_is (Some other) number e = let same : other ≡ number = grind arith in ap Some same

is_number_of : (found : Option ℕ) (number : ℕ) → found ≡ Some number → is_number number found ≡ true
is_number_of None number e = absurd (cc)
is_number_of (Some other) number e = let same : other ≡ number = some_is e in grind arith

-- a definition that its name means, and that has members of its own
record Owns (definitions : List PlainDefinition) (number : ℕ) (kind : PlainKind) : Type 0 where
  name : PlainName
  is_main : main_name kind ≡ Some name
  means : meaning definitions name.text ≡ Some number
  has : has_members_of_its_own (kind_of kind) ≡ true

owns_by : (definitions : List PlainDefinition) (number : ℕ) (kind : PlainKind) (name : Option PlainName) → main_name kind ≡ name → has_members_of_its_own (kind_of kind) ≡ true → means_itself definitions number name ≡ true → Owns definitions number kind
owns_by definitions number kind None is has e = absurd (cc)
owns_by definitions number kind (Some name) is has e = record { name = name; is_main = is; means = number_is (meaning definitions name.text) number e; has = has }

owns : (definitions : List PlainDefinition) (number : ℕ) (kind : PlainKind) → is_owner definitions number kind ≡ true → Owns definitions number kind
owns definitions number kind e = let both = both_true (has_members_of_its_own (kind_of kind)) (means_itself definitions number (main_name kind)) e in owns_by definitions number kind (main_name kind) refl both.0 both.1

owner_parts : (kind : Kind) → has_members_of_its_own kind ≡ true → has_parts kind ≡ true
owner_parts kinds.Interface e = refl
owner_parts kinds.Namespace e = refl
owner_parts kind e = absurd (cc)

-- what the members that are listed break is what the definition breaks
pub owner_first : (definitions : List PlainDefinition) (number : ℕ) (kind : PlainKind) (list : List PlainKind) (members : List PlainMember) (found : Option Refusal) → is_owner definitions number kind ≡ true
    → option_map (λ (d : PlainDefinition). d.kind) (slice_get definitions number) ≡ Some kind → ListsParts definitions number list → members ≡ flat_map members_in list
    → IsFirst (MembersBreak definitions (kind_of kind) members) member_rules found → IsFirst (OwnerBreaks definitions number kind) member_rules found
owner_first definitions number kind list members found owner there lists listed l =
    let o = owns definitions number kind owner in
    let main : meant definitions o.name.text ≡ Some kind = ap (λ n. option_map (λ (d : PlainDefinition). d.kind) (option_and_then (slice_get definitions) n)) o.means ∙ there in
    let all : members ≡ merged_members definitions (kind_of kind) o.name.text = listed ∙ merged_listed definitions number o.name.text (kind_of kind) list lists o.means (ap (option_map kind_of) main) (owner_parts (kind_of kind) o.has) in
    same_breaks (MembersBreak definitions (kind_of kind) members) (OwnerBreaks definitions number kind) member_rules found
    (λ which s h. record { name = o.name; is_main = o.is_main; means = o.means; breaks = subst (λ ms. MembersBreak definitions (kind_of kind) ms which s) all h })
    (λ which s h. subst (λ ms. MembersBreak definitions (kind_of kind) ms which s) (sym all) (subst (λ (name : PlainName). MembersBreak definitions (kind_of kind) (merged_members definitions (kind_of kind) name.text) which s) (some_is (sym h.is_main ∙ o.is_main)) h.breaks))
    l

means_by : (definitions : List PlainDefinition) (number : ℕ) (found : Option PlainName) (name : PlainName) → found ≡ Some name → meaning definitions name.text ≡ Some number → means_itself definitions number found ≡ true
means_by definitions number None name is means = absurd (cc)
means_by definitions number (Some other) name is means = is_number_of (meaning definitions other.text) number (ap (λ (n : PlainName). meaning definitions n.text) (some_is is) ∙ means)

-- a definition that is no owner breaks no rule
pub no_owner : (definitions : List PlainDefinition) (number : ℕ) (kind : PlainKind) → is_owner definitions number kind ≡ false → (which : ValidityRule) (s : Violation) → OwnerBreaks definitions number kind which s → ⊥
no_owner definitions number kind not_owner which s h =
    let owner : is_owner definitions number kind ≡ true = both_are (has_members_of_its_own (kind_of kind)) (means_itself definitions number (main_name kind)) (narrow which (kind_of kind) h.breaks.0) (means_by definitions number (main_name kind) h.name h.is_main h.means) in
    absurd (cc)

-- one definition more
pub owner_pushed : (definitions before : List PlainDefinition) (d : PlainDefinition) (which : ValidityRule) → Either (OwnersBreak definitions before which) (OwnerBreaks definitions (length before) d.kind which) (OwnersBreak definitions (before ++ d ∷ []) which)
owner_pushed definitions before d which = either_pushed (InOwnerAt definitions (asks which) (BreaksMember definitions which)) before d

-- the number of the next definition, as a loop over the definitions has it
pub number_next : (definitions : List (Bor Definition)) (i : ℕ) → i < length definitions → length (listed_definitions (take i definitions)) ≡ i
number_next definitions i below = length-map (take i definitions) (λ x. definition_of x.now) ∙ length-take-le i definitions (omega (arith, below))

number_found : (definitions : List PlainDefinition) (text : List ℕ) (kind : Kind) (found : Option ℕ) → meaning definitions text ≡ found → meant_kind definitions text ≡ Some kind → (n : ℕ) × (meaning definitions text ≡ Some n)
number_found definitions text kind (Some n) e is = (n, e)
number_found definitions text kind None e is = absurd (let none : meant_kind definitions text ≡ None = ap (λ n. option_map kind_of (option_map (λ (d : PlainDefinition). d.kind) (option_and_then (slice_get definitions) n))) e in (cc))

named_text : (text : List ℕ) (found : Option PlainName) → is_text_of text found ≡ true → (name : PlainName) × (found ≡ Some name) × (name.text ≡ text)
named_text text None e = absurd (cc)
named_text text (Some name) e = (name, refl, grind (arith, bytes_eq-Decides name.text text))

module _ (all : List PlainDefinition) (asked : Kind → Bool) (Breaks : List PlainMember → PlainMember → Violation → Type 0) where
  size_before : (n : ℕ) → n < length all → length (take n all) ≡ n
  size_before n below = length-take-le n all (omega (arith, below))

  in_one_owner : (s : Violation) → InDefinitions all all asked Breaks s → InOneOwner asked Breaks all s
  in_one_owner s u =
      let b = u.breaks in
      let means : meaning all b.name.text ≡ Some u.index = b.means ∙ ap Some (size_before u.index u.below) in
      record { text = b.name.text; kind = kind_of u.item.kind; means = ap (option_map kind_of) (meant_at all u.index b.name.text u.item means u.is); is_asked = b.breaks.0; breaks = b.breaks.1 }

  in_definitions : (s : Violation) → InOneOwner asked Breaks all s → InDefinitions all all asked Breaks s
  in_definitions s h =
      let n = number_found all h.text h.kind (meaning all h.text) refl h.means in
      let m = meaning_named all n.0 h.text n.1 in
      let name = named_text h.text (main_name m.definition.kind) m.named in
      let below : n.0 < length all = slice_get_within all n.0 m.definition m.is in
      let its_kind : h.kind ≡ kind_of m.definition.kind = some_is (sym h.means ∙ ap (option_map kind_of) (meant_at all n.0 h.text m.definition n.1 m.is)) in
      record {
        index = n.0;
        below = below;
        item = m.definition;
        is = m.is;
        breaks = record {
          name = name.0;
          is_main = name.1;
          means = ap (meaning all) name.2 ∙ n.1 ∙ ap Some (sym (size_before n.0 below));
          breaks = subst (λ text. InMembers (kind_of m.definition.kind) (merged_members all (kind_of m.definition.kind) text) asked Breaks s) (sym name.2) (subst (λ kind. InMembers kind (merged_members all kind h.text) asked Breaks s) its_kind (h.is_asked, h.breaks));
        };
      }

-- what the definitions break is what the owners that names mean break
pub owners_first : (all : List PlainDefinition) (found : Option Refusal) → IsFirst (OwnersBreak all all) member_rules found → IsFirst (ByOwner all) member_rules found
owners_first all found l = same_breaks (OwnersBreak all all) (ByOwner all) member_rules found (λ which. in_one_owner all (asks which) (BreaksMember all which)) (λ which. in_definitions all (asks which) (BreaksMember all which)) l

-- what a rule finds in the members of an owner that it asks
pub asked_first : (kind : Kind) (members : List PlainMember) (asked : Kind → Bool) (Breaks : List PlainMember → PlainMember → Violation → Type 0) (found : Option Violation) → asked kind ≡ true → FirstWhere (AtOne Breaks members) found → FirstWhere (InMembers kind members asked Breaks) found
asked_first kind members asked Breaks found is l = first_same (AtOne Breaks members) (InMembers kind members asked Breaks) found (λ s u. (is, u)) (λ s h. h.1) l

-- what a rule on interfaces alone finds in the members of an interface, and in none of another owner
pub interface_first : (kind : Kind) (members found_in : List PlainMember) (Breaks : List PlainMember → PlainMember → Violation → Type 0) (found : Option Violation) → found_in ≡ cond (is_interface_kind kind) members [] → FirstWhere (AtOne Breaks found_in) found → FirstWhere (InMembers kind members is_interface_kind Breaks) found
interface_first kind members found_in Breaks found is l = by_kind (is_interface_kind kind) refl is
  where
    by_kind : (b : Bool) → is_interface_kind kind ≡ b → found_in ≡ cond b members [] → FirstWhere (InMembers kind members is_interface_kind Breaks) found
    by_kind true asked same = asked_first kind members is_interface_kind Breaks found asked (subst (λ ms. FirstWhere (AtOne Breaks ms) found) same l)
    by_kind false asked same = first_same (AtOne Breaks []) (InMembers kind members is_interface_kind Breaks) found (λ s u. absurd (let below = u.below in omega arith)) (λ s h. absurd (let yes = h.0 in (cc))) (subst (λ ms. FirstWhere (AtOne Breaks ms) found) same l)
