-- The definitions that have an operation in two parts, by their numbers and by the parts that have members.
use Rattle.std.proofs.Common.{◌≡◌, inl, inr, ℕ, ◌+◌, ◌<◌, ◌≤◌, ◌++◌, Bool, true, false, cond, ◌&&◌, ◌||◌, List, [], ◌∷◌, length, take, filter, get_or, slice_get, Option, None, Some, option_map, option_and_then, arith, refl, sym, ap, subst, ◌∙◌, Bor, append_assoc, append-nil, length-take-le}
use Rattle.std.specs.List.{list_any}
use Rattle.std.proofs.lemmas.List.{length-map, take_all}
use Rattle.std.proofs.lemmas.Option.{slice_get_within}
use Rattle.std.proofs.Math.Bool.{or-false}
use Rattle.std.proofs.lemmas.Slice.Eq.{bytes_eq-Decides}
use Rattle.widl_idl.specs.declared.kind.Kind.{Kind}
use Rattle.widl_idl.specs.declared.violation.Violation.{Violation}
use Rattle.widl_idl.specs.declared.tree.definitions.Definition.{Definition}
use Rattle.widl_idl.specs.First.{AtOne, FirstWhere, earlier}
use Rattle.widl_idl.specs.Meanings.{is_text_of, kind_of, main_name, meaning, meant, meant_kind}
use Rattle.widl_idl.specs.MergingRules.{HasInTwoParts, RepeatsOperation, IsInEarlierPart, AtName, has_operation, is_number, is_operation_of, is_static}
use Rattle.widl_idl.specs.Parts.{members_in, parts_of}
use Rattle.widl_idl.specs.PlainTypes.{PlainName}
use Rattle.widl_idl.specs.PlainTrees.{PlainDefinition, PlainKind, PlainMember, PlainMemberKind, OperationMember, definition_of}
use Rattle.widl_idl.proofs.Order.{first_same}
use Rattle.widl_names.specs.Listings.{listed_definitions}
use Rattle.widl_names.specs.PartTables.{ListsParts, has_members, has_parts, means_itself}
use Rattle.widl_merge.specs.Repeats.{RepeatsAt, RepeatsInOwner, is_owner}
use Rattle.widl_names.proofs.KeptMembers.{no_members}
use Rattle.widl_names.proofs.MappedLoops.{any_push}
use Rattle.widl_names.proofs.NamedParts.{meaning_named, meant_at}
use Rattle.widl_names.proofs.PlainLists.{listed_more}
use Rattle.widl_names.proofs.Pushed.{at_one_push, either_pushed, some_is}

-- two lists of parts have the same operations, and repeat them at the same violations
record Alike (some others : List PlainKind) : Type 0 where
  names : (text : List ℕ) (static : Bool) → list_any (has_operation text static) some ≡ list_any (has_operation text static) others
  to : (s : Violation) → AtOne RepeatsOperation some s → AtOne RepeatsOperation others s
  from : (s : Violation) → AtOne RepeatsOperation others s → AtOne RepeatsOperation some s

module _ (some others : List PlainKind) (same : (text : List ℕ) (static : Bool) → list_any (has_operation text static) some ≡ list_any (has_operation text static) others) where
  name_alike : (static : Bool) (name : Option PlainName) (s : Violation) → AtName name (λ n. list_any (has_operation n.text static) some ≡ true) s → AtName name (λ n. list_any (has_operation n.text static) others ≡ true) s
  name_alike static None s h = h
  name_alike static (Some name) s h = (sym (same name.text static) ∙ h.0, h.1)

  member_alike : (kind : PlainMemberKind) (s : Violation) → IsInEarlierPart some kind s → IsInEarlierPart others kind s
  member_alike (OperationMember o) s h = name_alike (is_static o.kind) o.name s h
  member_alike kind s h = absurd h

  part_alike : (part : PlainKind) (s : Violation) → RepeatsOperation some part s → RepeatsOperation others part s
  part_alike part s h = record { item = h.item; listed = h.listed; breaks = member_alike h.item.kind s h.breaks }

-- with a part more in both lists
alike_both : (some others : List PlainKind) (part : PlainKind) → Alike some others → Alike (some ++ part ∷ []) (others ++ part ∷ [])
alike_both some others part a =
    let left = either_pushed RepeatsOperation some part in
    let right = either_pushed RepeatsOperation others part in
    record {
      names = λ text static. any_push (has_operation text static) some part ∙ ap (λ b. b || has_operation text static part) (a.names text static) ∙ sym (any_push (has_operation text static) others part);
      to = λ s h. elim (left.only s h) [ inl u ↦ right.left s (a.to s u) | inr r ↦ right.right s (part_alike some others a.names part s r) ];
      from = λ s h. elim (right.only s h) [ inl u ↦ left.left s (a.from s u) | inr r ↦ left.right s (part_alike others some (λ text static. sym (a.names text static)) part s r) ];
    }

-- with a part more in one list that has no members
alike_left : (some others : List PlainKind) (part : PlainKind) → has_members part ≡ false → Alike some others → Alike (some ++ part ∷ []) others
alike_left some others part has a =
    let left = either_pushed RepeatsOperation some part in
    let empty : members_in part ≡ [] = no_members (members_in part) has in
    record {
      names = λ text static. any_push (has_operation text static) some part ∙ ap (λ ms. list_any (has_operation text static) some || list_any (λ (m : PlainMember). is_operation_of text static m.kind) ms) empty ∙ or-false (list_any (has_operation text static) some) ∙ a.names text static;
      to = λ s h. elim (left.only s h) [ inl u ↦ a.to s u | inr r ↦ absurd (let listed = r.listed in let size = ap length empty in omega (arith, listed.1, size)) ];
      from = λ s h. left.left s (a.from s h);
    }

alike_by : (b : Bool) (some others : List PlainKind) (part : PlainKind) (more kept : List PlainKind) → has_members part ≡ b → Alike some others
    → ((these those : List PlainKind) → Alike these those → Alike (these ++ more) (those ++ kept)) → Alike (some ++ part ∷ more) (others ++ cond b (part ∷ kept) kept)
alike_by true some others part more kept has a rest = subst (λ ps. Alike ps (others ++ part ∷ kept)) (append_assoc some (part ∷ []) more) (subst (Alike ((some ++ part ∷ []) ++ more)) (append_assoc others (part ∷ []) kept) (rest (some ++ part ∷ []) (others ++ part ∷ []) (alike_both some others part a)))
alike_by false some others part more kept has a rest = subst (λ ps. Alike ps (others ++ kept)) (append_assoc some (part ∷ []) more) (rest (some ++ part ∷ []) others (alike_left some others part has a))

alike_all : (parts some others : List PlainKind) → Alike some others → Alike (some ++ parts) (others ++ filter has_members parts)
alike_all [] some others a = subst (λ ps. Alike ps (others ++ [])) (sym (append-nil some)) (subst (Alike some) (sym (append-nil others)) a)
alike_all (part ∷ parts) some others a = alike_by (has_members part) some others part parts (filter has_members parts) refl a (alike_all parts)

-- the parts without members repeat nothing
pub repeats_kept : (parts : List PlainKind) (found : Option Violation) → FirstWhere (AtOne RepeatsOperation (filter has_members parts)) found → FirstWhere (AtOne RepeatsOperation parts) found
repeats_kept parts found l =
    let a : Alike parts (filter has_members parts) = alike_all parts [] [] (record { names = λ text static. refl; to = λ s h. h; from = λ s h. h }) in
    first_same (AtOne RepeatsOperation (filter has_members parts)) (AtOne RepeatsOperation parts) found a.from a.to l

-- a definition that its name means, and that may have operations
record Owns (definitions : List PlainDefinition) (number : ℕ) (kind : PlainKind) : Type 0 where
  name : PlainName
  is_main : main_name kind ≡ Some name
  means : meaning definitions name.text ≡ Some number
  has : has_parts (kind_of kind) ≡ true

both_true : (a b : Bool) → (a && b) ≡ true → (a ≡ true) × (b ≡ true)
both_true true b e = (refl, e)
both_true false b e = absurd (cc)

number_is : (found : Option ℕ) (number : ℕ) → is_number number found ≡ true → found ≡ Some number
number_is None number e = absurd (cc)
number_is (Some other) number e = let same : other ≡ number = grind arith in ap Some same

owns_by : (definitions : List PlainDefinition) (number : ℕ) (kind : PlainKind) (name : Option PlainName) → main_name kind ≡ name → has_parts (kind_of kind) ≡ true → means_itself definitions number name ≡ true → Owns definitions number kind
owns_by definitions number kind None is has e = absurd (cc)
owns_by definitions number kind (Some name) is has e = record { name = name; is_main = is; means = number_is (meaning definitions name.text) number e; has = has }

owns : (definitions : List PlainDefinition) (number : ℕ) (kind : PlainKind) → is_owner definitions number kind ≡ true → Owns definitions number kind
owns definitions number kind e = let both = both_true (has_parts (kind_of kind)) (means_itself definitions number (main_name kind)) e in owns_by definitions number kind (main_name kind) refl both.0 both.1

-- what the parts that are listed repeat is what the definition repeats
pub owner_first : (definitions : List PlainDefinition) (number : ℕ) (kind : PlainKind) (list : List PlainKind) (found : Option Violation) → is_owner definitions number kind ≡ true → option_map (λ (d : PlainDefinition). d.kind) (slice_get definitions number) ≡ Some kind → ListsParts definitions number list
    → FirstWhere (AtOne RepeatsOperation list) found → FirstWhere (RepeatsInOwner definitions number kind) found
owner_first definitions number kind list found owner there lists l =
    let o = owns definitions number kind owner in
    let main : meant definitions o.name.text ≡ Some kind = ap (λ n. option_map (λ (d : PlainDefinition). d.kind) (option_and_then (slice_get definitions) n)) o.means ∙ there in
    let kept : list ≡ filter has_members (parts_of definitions (kind_of kind) o.name.text) = lists o.name.text (kind_of kind) o.means (ap (option_map kind_of) main) o.has in
    first_same (AtOne RepeatsOperation (parts_of definitions (kind_of kind) o.name.text)) (RepeatsInOwner definitions number kind) found
    (λ s u. record { name = o.name; is_main = o.is_main; means = o.means; repeats = u })
    (λ s h. subst (λ (name : PlainName). AtOne RepeatsOperation (parts_of definitions (kind_of kind) name.text) s) (some_is (sym h.is_main ∙ o.is_main)) h.repeats)
    (repeats_kept (parts_of definitions (kind_of kind) o.name.text) found (subst (λ ps. FirstWhere (AtOne RepeatsOperation ps) found) kept l))

-- one definition more, as a loop over the definitions has it
pub owners_step : (all : List PlainDefinition) (definitions : List (Bor Definition)) (i : ℕ) (d : Bor Definition) (best found now : Option Violation) → i < length definitions → d ≡ get_or definitions i d → now ≡ earlier best found
    → FirstWhere (RepeatsInOwner all i (definition_of d.now).kind) found → FirstWhere (AtOne (RepeatsAt all) (listed_definitions (take i definitions))) best → FirstWhere (AtOne (RepeatsAt all) (listed_definitions (take (i + 1) definitions))) now
owners_step all definitions i d best found now below is e l m =
    let before = listed_definitions (take i definitions) in
    let size : length before ≡ i = length-map (take i definitions) (λ x. definition_of x.now) ∙ length-take-le i definitions (omega (arith, below)) in
    subst (λ ds. FirstWhere (AtOne (RepeatsAt all) ds) now) (sym (listed_more definitions i d below is))
    (subst (FirstWhere (AtOne (RepeatsAt all) (before ++ definition_of d.now ∷ []))) (sym e)
    (at_one_push (RepeatsAt all) before (definition_of d.now) best found m (subst (λ n. FirstWhere (RepeatsInOwner all n (definition_of d.now).kind) found) (sym size) l)))

number_found : (definitions : List PlainDefinition) (text : List ℕ) (kind : Kind) (found : Option ℕ) → meaning definitions text ≡ found → meant_kind definitions text ≡ Some kind → (n : ℕ) × (meaning definitions text ≡ Some n)
number_found definitions text kind (Some n) e is = (n, e)
number_found definitions text kind None e is = absurd (let none : meant_kind definitions text ≡ None = ap (λ n. option_map kind_of (option_map (λ (d : PlainDefinition). d.kind) (option_and_then (slice_get definitions) n))) e in (cc))

named_text : (text : List ℕ) (found : Option PlainName) → is_text_of text found ≡ true → (name : PlainName) × (found ≡ Some name) × (name.text ≡ text)
named_text text None e = absurd (cc)
named_text text (Some name) e = (name, refl, grind (arith, bytes_eq-Decides name.text text))

module _ (all : List PlainDefinition) where
  size_before : (n : ℕ) → n < length all → length (take n all) ≡ n
  size_before n below = length-take-le n all (omega (arith, below))

  has_it : (s : Violation) → AtOne (RepeatsAt all) all s → HasInTwoParts all s
  has_it s u =
      let b = u.breaks in
      let means : meaning all b.name.text ≡ Some u.index = b.means ∙ ap Some (size_before u.index u.below) in
      record { text = b.name.text; kind = kind_of u.item.kind; means = ap (option_map kind_of) (meant_at all u.index b.name.text u.item means u.is); repeats = b.repeats }

  is_at : (s : Violation) → HasInTwoParts all s → AtOne (RepeatsAt all) all s
  is_at s h =
      let n = number_found all h.text h.kind (meaning all h.text) refl h.means in
      let m = meaning_named all n.0 h.text n.1 in
      let name = named_text h.text (main_name m.definition.kind) m.named in
      let below : n.0 < length all = slice_get_within all n.0 m.definition m.is in
      let its_kind : h.kind ≡ kind_of m.definition.kind = some_is (sym h.means ∙ ap (option_map kind_of) (meant_at all n.0 h.text m.definition n.1 m.is)) in
      record {
        index = n.0;
        below = below;
        item = m.definition;
        is = m.is;
        breaks = record {
          name = name.0;
          is_main = name.1;
          means = ap (meaning all) name.2 ∙ n.1 ∙ ap Some (sym (size_before n.0 below));
          repeats = subst (λ text. AtOne RepeatsOperation (parts_of all (kind_of m.definition.kind) text) s) (sym name.2) (subst (λ kind. AtOne RepeatsOperation (parts_of all kind h.text) s) its_kind h.repeats);
        };
      }

-- at the end of the list
pub owners_all : (all : List PlainDefinition) (definitions : List (Bor Definition)) (i : ℕ) (best : Option Violation) → length definitions ≤ i → listed_definitions definitions ≡ all → FirstWhere (AtOne (RepeatsAt all) (listed_definitions (take i definitions))) best → FirstWhere (HasInTwoParts all) best
owners_all all definitions i best past same m =
    first_same (AtOne (RepeatsAt all) all) (HasInTwoParts all) best (has_it all) (is_at all) (subst (λ ds. FirstWhere (AtOne (RepeatsAt all) ds) best) (ap listed_definitions (take_all i definitions past) ∙ same) m)

pub no_owners : (all : List PlainDefinition) → FirstWhere (AtOne (RepeatsAt all) []) None
no_owners all = λ s u. absurd (let below = u.below in omega arith)
