-- Operations whose names are known, a member and a part at a time.
use Rattle.std.proofs.Common.{◌≡◌, ℕ, ◌+◌, ◌<◌, ◌≤◌, ◌++◌, Bool, true, false, cond, ◌||◌, List, [], ◌∷◌, length, take, map, get_or, bytes_eq, Option, None, Some, arith, refl, sym, ap, subst, ◌∙◌, Bor}
use Rattle.std.specs.List.{list_any}
use Rattle.std.proofs.lemmas.List.{take_all}
use Rattle.std.proofs.Math.Bool.{or-false, or_assoc}
use Rattle.std.proofs.lemmas.List.Folds.{list_any-append}
use Rattle.indexmap.specs.IndexSet.{IndexSet, contains_by}
use Rattle.widl_text.specs.declared.place.Place.{Place}
use Rattle.widl_idl.specs.declared.violation.Violation.{Violation}
use Rattle.widl_idl.specs.declared.tree.definitions.DefinitionKind.{DefinitionKind}
use Rattle.widl_idl.specs.declared.tree.members.Member.{Member}
use Rattle.widl_idl.specs.First.{AtOne, FirstWhere, Somewhere, earlier, violation_at}
use Rattle.widl_idl.specs.MergingRules.{AtName, IsInEarlierPart, RepeatsOperation, has_operation, is_operation_of, is_static}
use Rattle.widl_idl.specs.Parts.{members_in}
use Rattle.widl_idl.specs.PlainTypes.{PlainName}
use Rattle.widl_idl.specs.PlainTrees.{PlainKind, PlainMember, PlainMemberKind, OperationMember, definition_kind_of, member_of, members_of}
use Rattle.widl_idl.proofs.Order.{first_same, not_before_same}
use Rattle.widl_idl.proofs.Somewhere.{somewhere_both, somewhere_one}
use Rattle.widl_names.specs.PartTables.{listed_parts}
use Rattle.widl_merge.specs.Repeats.{IsKnown, known_at, known_name}
use Rattle.widl_names.proofs.MappedLoops.{any_push}
use Rattle.widl_names.proofs.PlainLists.{mapped_more}
use Rattle.widl_names.proofs.Pushed.{at_one_push, some_is}

-- the names that are known, with one member more
pub names_step : (text : List ℕ) (static : Bool) (members : List Member) (i : ℕ) (m : Member) (start old new : Bool) → i < length members → m ≡ get_or members i m
    → new ≡ (old || is_operation_of text static (member_of m).kind) → old ≡ (start || list_any (λ x. is_operation_of text static x.kind) (members_of (take i members)))
    → new ≡ (start || list_any (λ x. is_operation_of text static x.kind) (members_of (take (i + 1) members)))
names_step text static members i m start old new below is adds was =
    let test : PlainMember → Bool = λ (x : PlainMember). is_operation_of text static x.kind in
    adds ∙ ap (λ b. b || test (member_of m)) was ∙ or_assoc start (list_any test (members_of (take i members))) (test (member_of m))
    ∙ ap (λ b. start || b) (sym (any_push test (members_of (take i members)) (member_of m)) ∙ ap (list_any test) (sym (mapped_more member_of members i m below is)))

-- a violation that is found is the least one
found_first : (found : Option Violation) → FirstWhere (λ s. found ≡ Some s) found
found_first None = λ t e. absurd (cc)
found_first (Some s) = record { holds = refl; first = λ t e before. not_before_same s t (some_is e) before }

pub known_first : (known : List ℕ → Bool → Bool) (m : PlainMember) (found : Option Violation) → found ≡ known_at known m.kind → FirstWhere (IsKnown known m) found
known_first known m found e = subst (FirstWhere (IsKnown known m)) (sym e) (found_first (known_at known m.kind))

module _ (known : List ℕ → Bool → Bool) (before : List PlainKind) (same : (text : List ℕ) (static : Bool) → known text static ≡ list_any (has_operation text static) before) where
  violation_by : (b : Bool) (at : Place) (s : Violation) → cond b (Some (violation_at at)) None ≡ Some s → (b ≡ true) × (violation_at at ≡ s)
  violation_by true at s e = (refl, some_is e)
  violation_by false at s e = absurd (cc)

  name_known : (static : Bool) (name : Option PlainName) (s : Violation) → known_name known static name ≡ Some s → AtName name (λ n. list_any (has_operation n.text static) before ≡ true) s
  name_known static None s e = absurd (cc)
  name_known static (Some name) s e = let found = violation_by (known name.text static) name.at s e in (sym (same name.text static) ∙ found.0, found.1)

  name_repeated : (static : Bool) (name : Option PlainName) (s : Violation) → AtName name (λ n. list_any (has_operation n.text static) before ≡ true) s → known_name known static name ≡ Some s
  name_repeated static None s h = absurd h
  name_repeated static (Some name) s h = ap (λ b. cond b (Some (violation_at name.at)) None) (same name.text static ∙ h.0) ∙ ap Some h.1

  member_known : (kind : PlainMemberKind) (s : Violation) → known_at known kind ≡ Some s → IsInEarlierPart before kind s
  member_known (OperationMember o) s e = name_known (is_static o.kind) o.name s e
  member_known kind s e = absurd (cc)

  member_repeated : (kind : PlainMemberKind) (s : Violation) → IsInEarlierPart before kind s → known_at known kind ≡ Some s
  member_repeated (OperationMember o) s h = name_repeated (is_static o.kind) o.name s h
  member_repeated kind s h = absurd h

  part_known : (members : List PlainMember) (s : Violation) → Somewhere (IsKnown known) members s → Somewhere (λ (m : PlainMember). IsInEarlierPart before m.kind) members s
  part_known members s h = record { item = h.item; listed = h.listed; breaks = member_known h.item.kind s h.breaks }

  part_repeated : (members : List PlainMember) (s : Violation) → Somewhere (λ (m : PlainMember). IsInEarlierPart before m.kind) members s → Somewhere (IsKnown known) members s
  part_repeated members s h = record { item = h.item; listed = h.listed; breaks = member_repeated h.item.kind s h.breaks }

  -- what is known among a part's members is what the part repeats
  repeats_known : (part : PlainKind) (members : List PlainMember) (found : Option Violation) → members ≡ members_in part → FirstWhere (Somewhere (IsKnown known) members) found → FirstWhere (RepeatsOperation before part) found
  repeats_known part members found e l = first_same (Somewhere (IsKnown known) (members_in part)) (RepeatsOperation before part) found (part_known (members_in part)) (part_repeated (members_in part)) (subst (λ ms. FirstWhere (Somewhere (IsKnown known) ms) found) e l)

-- the names of the operations of the parts are known, and the first violation at which a part repeats one
pub record Repeated (known : List ℕ → Bool → Bool) (parts : List PlainKind) (best : Option Violation) : Type 0 where
  pub names : (text : List ℕ) (static : Bool) → known text static ≡ list_any (has_operation text static) parts
  pub earliest : FirstWhere (AtOne RepeatsOperation parts) best

pub nothing_repeated : (known : List ℕ → Bool → Bool) → ((text : List ℕ) (static : Bool) → known text static ≡ false) → Repeated known [] None
nothing_repeated known none = record { names = none; earliest = λ s u. absurd (let below = u.below in omega arith) }

-- one part more
pub repeated_step : (known now_known : List ℕ → Bool → Bool) (parts : List (Bor DefinitionKind)) (i : ℕ) (part : Bor DefinitionKind) (members added : List PlainMember) (best found now : Option Violation) → i < length parts → part ≡ get_or parts i part
    → members ≡ members_in (definition_kind_of part.now) → FirstWhere (Somewhere (IsKnown known) members) found → now ≡ earlier best found → added ≡ members_in (definition_kind_of part.now)
    → ((text : List ℕ) (static : Bool) → now_known text static ≡ (known text static || list_any (λ m. is_operation_of text static m.kind) added))
    → Repeated known (listed_parts (take i parts)) best → Repeated now_known (listed_parts (take (i + 1) parts)) now
repeated_step known now_known parts i part members added best found now below is e l n a adds r =
    let plain = definition_kind_of part.now in
    let before = listed_parts (take i parts) in
    let more : listed_parts (take (i + 1) parts) ≡ before ++ plain ∷ [] = mapped_more (λ (k : Bor DefinitionKind). definition_kind_of k.now) parts i part below is in
    subst (λ ps. Repeated now_known ps now) (sym more) (record {
      names = λ text static. adds text static ∙ ap (λ ms. known text static || list_any (λ (m : PlainMember). is_operation_of text static m.kind) ms) a ∙ ap (λ b. b || has_operation text static plain) (r.names text static) ∙ sym (any_push (has_operation text static) before plain);
      earliest = subst (FirstWhere (AtOne RepeatsOperation (before ++ plain ∷ []))) (sym n) (at_one_push RepeatsOperation before plain best found r.earliest (repeats_known known before r.names plain members found e l));
    })

pub repeated_all : (known : List ℕ → Bool → Bool) (parts : List (Bor DefinitionKind)) (i : ℕ) (best : Option Violation) → length parts ≤ i → Repeated known (listed_parts (take i parts)) best → FirstWhere (AtOne RepeatsOperation (listed_parts parts)) best
repeated_all known parts i best past r = subst (λ ps. FirstWhere (AtOne RepeatsOperation (listed_parts ps)) best) (take_all i parts past) r.earliest
