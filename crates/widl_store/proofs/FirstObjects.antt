-- For proofs alone. How many objects the first store of a merged list has.
use Rattle.std.proofs.Common.{◌≡◌, ℕ, zero, suc, ◌+◌, ◌<◌, ◌≤◌, ◌^◌, ◌++◌, Bool, true, false, cond, List, [], ◌∷◌, length, map, drop, get_or, filter, filter_map, Option, None, Some, sum_by, Contains, arith, refl, sym, ap, subst, ◌∙◌, nat_eq, append_assoc, ◌≢◌}
use Rattle.std.specs.List.{list_any, cons_option}
use Rattle.std.proofs.lemmas.List.{length-append, length-map}
use Rattle.std.proofs.lemmas.List.Concat.{length-flat_map}
use Rattle.std.proofs.lemmas.List.Elements.{Contains-append_right}
use Rattle.std.proofs.lemmas.List.Sums.{sum_by-cons, sum_by-append}
use Rattle.std.proofs.lemmas.Slice.Eq.{bytes_eq-Decides}
use Rattle.widl_idl.specs.declared.namespace.Space.{Space}
use Rattle.widl_idl.specs.declared.kind.Kind.TheVariants as kinds
use Rattle.widl_idl.specs.declared.merging_rule.MergingRule.TheVariants as rule
use Rattle.widl_idl.specs.declared.violation.Violation.{Violation}
use Rattle.widl_idl.specs.DefinitionTerms.{SpaceTerm, defs_term, space_term}
use Rattle.widl_idl.specs.First.{AtOne, Somewhere, violation_at}
use Rattle.widl_idl.specs.Meanings.{definitions_of, is_text_of, kind_of, main_name, meaning, meant_kind, partial_name}
use Rattle.widl_idl.specs.MergedList.{namespace_if, namespace_of}
use Rattle.widl_idl.specs.MergedMembers.{are_overloads, firsts_after, op_name_of, operation_in, operations_in}
use Rattle.widl_idl.specs.MergedSets.{IsMerged, MergedSet}
use Rattle.widl_idl.specs.MergingRules.{AtName, IsSecondDefinition, IsWithoutMain, PassesLimit, Portion, is_kind, is_number, portion_of, portions_from}
use Rattle.widl_idl.specs.Parts.{adds_to, is_namespace, members_in, merged_members, own_parts, parts_beside}
use Rattle.widl_idl.specs.PlainTrees.{PlainContainerOfMembers, PlainDefinition, PlainKind, PlainMember, PlainOperation, NamespaceDefinition}
use Rattle.widl_store.specs.Bounds.{AreFewObjects, AreSharesKept, AreWithinShares, HasRoom, namespace_share, namespace_shares, objects_for}
use Rattle.widl_store.specs.Objects.{Obj}
use Rattle.widl_store.specs.Intrinsics.{intrinsics}
use Rattle.widl_store.specs.Plans.{object_of}
use Rattle.widl_store.specs.Realm.{after, namespace_plans, namespaces_from, realm_over, realm_plans}
use Rattle.widl_store.proofs.NamespaceShares.{added_to, all_shared, main_adds, main_share, meant_there, means_there, within_limit}
use Rattle.widl_store.proofs.PlanObjects.{intrinsics_are_18}
use Rattle.widl_store.proofs.RealmSteps.{length_functions, next_space}

-- how many objects stand for a namespace that may be absent
abbrev pub found_objects : Option SpaceTerm → ℕ
found_objects None = 0
found_objects (Some s) = objects_for s

-- the operation names of some operations are no more than these
few_firsts : (before operations : List PlainOperation) → length (firsts_after before operations) ≤ length operations
few_firsts before [] = omega arith
few_firsts before (o ∷ more) = by (list_any (are_overloads o) before) (few_firsts before more) (few_firsts (before ++ o ∷ []) more)
  where
    by : (b : Bool) → length (firsts_after before more) ≤ length more → length (firsts_after (before ++ o ∷ []) more) ≤ length more → length (cond b (firsts_after before more) (o ∷ firsts_after (before ++ o ∷ []) more)) ≤ suc (length more)
    by true left right = omega (arith, left)
    by false left right = omega (arith, right)

few_operations : (members : List PlainMember) → length (operations_in members) ≤ length members
few_operations [] = omega arith
few_operations (m ∷ more) = by (operation_in m.kind) (few_operations more)
  where
    by : (o : Option PlainOperation) → length (operations_in more) ≤ length more → length (cons_option o (operations_in more)) ≤ suc (length more)
    by None few = omega (arith, few)
    by (Some o) few = omega (arith, few)

-- the members of the partial definitions of a namespace
partial_members : (text : List ℕ) (definitions : List PlainDefinition) → sum_by (λ (k : PlainKind). length (members_in k)) (filter (adds_to is_namespace text) (map (λ (d : PlainDefinition). d.kind) definitions)) ≡ sum_by (λ (d : PlainDefinition). added_to text d.kind) definitions
partial_members text [] = refl
partial_members text (d ∷ more) = by (adds_to is_namespace text d.kind) refl (partial_members text more)
  where
    kept : List PlainKind
    kept = filter (adds_to is_namespace text) (map (λ (x : PlainDefinition). x.kind) more)

    by : (b : Bool) → adds_to is_namespace text d.kind ≡ b
        → sum_by (λ (k : PlainKind). length (members_in k)) (filter (adds_to is_namespace text) (map (λ (x : PlainDefinition). x.kind) more)) ≡ sum_by (λ (x : PlainDefinition). added_to text x.kind) more
        → sum_by (λ (k : PlainKind). length (members_in k)) (cond b (d.kind ∷ filter (adds_to is_namespace text) (map (λ (x : PlainDefinition). x.kind) more)) (filter (adds_to is_namespace text) (map (λ (x : PlainDefinition). x.kind) more))) ≡ sum_by (λ (x : PlainDefinition). added_to text x.kind) (d ∷ more)
    by true is rest =
        let left = sum_by-cons (λ (k : PlainKind). length (members_in k)) d.kind (filter (adds_to is_namespace text) (map (λ (x : PlainDefinition). x.kind) more)) in
        let right = sum_by-cons (λ (x : PlainDefinition). added_to text x.kind) d more in
        let here : added_to text d.kind ≡ length (members_in d.kind) = ap (λ b. cond b (length (members_in d.kind)) 0) is in
        omega (arith, left, right, here, rest)
    by false is rest =
        let right = sum_by-cons (λ (x : PlainDefinition). added_to text x.kind) d more in
        let here : added_to text d.kind ≡ 0 = ap (λ b. cond b (length (members_in d.kind)) 0) is in
        omega (arith, right, here, rest)

-- the objects after the fixed ones
spaces_counted : (id number : ℕ) (spaces : List SpaceTerm) → length (namespaces_from id number spaces) ≡ sum_by objects_for spaces
spaces_counted id number [] = refl
spaces_counted id number (s ∷ more) =
    let parts = length-append (namespace_plans id number s) (namespaces_from (after id s) (number + 1) more) in
    let functions = length_functions number 0 s.members.ops in
    let rest = spaces_counted (after id s) (number + 1) more in
    let all = sum_by-cons objects_for s more in
    omega (arith, parts, functions, rest, all)

pub objects_counted : (spaces : List SpaceTerm) → length (realm_over spaces).objects ≡ 18 + sum_by objects_for spaces
unfolding realm_over
objects_counted spaces =
    let all = length-map (realm_plans spaces) object_of in
    let parts = length-append intrinsics (namespaces_from 18 0 spaces) in
    let fixed = intrinsics_are_18 in
    let rest = spaces_counted 18 0 spaces in
    omega (arith, all, parts, fixed, rest)

module _ (definitions : List PlainDefinition) (once : (s : Violation) → AtOne IsSecondDefinition definitions s → ⊥) where
  own_name : (n : PlainContainerOfMembers) → n.partial ≡ false → is_text_of n.name.text (main_name (NamespaceDefinition n)) ≡ true
  own_name n main = ap (λ p. is_text_of n.name.text (cond p None (Some n.name))) main ∙ (bytes_eq-Decides n.name.text n.name.text).1 refl

  -- the operation names of a namespace are no more than the members of its parts
  few_names : (before : List PlainDefinition) (d : PlainDefinition) (after : List PlainDefinition) (n : PlainContainerOfMembers) → definitions ≡ before ++ d ∷ after → d.kind ≡ NamespaceDefinition n → n.partial ≡ false → length (namespace_of definitions n).members.ops ≤ length n.members + sum_by (λ (x : PlainDefinition). added_to n.name.text x.kind) definitions
  few_names before d after n e is main =
      let members = merged_members definitions kinds.Namespace n.name.text in
      let named : is_text_of n.name.text (main_name d.kind) ≡ true = ap (λ k. is_text_of n.name.text (main_name k)) is ∙ own_name n main in
      let parts : own_parts is_namespace definitions n.name.text ≡ NamespaceDefinition n ∷ filter (adds_to is_namespace n.name.text) (map (λ (x : PlainDefinition). x.kind) definitions) =
      ap (parts_beside is_namespace definitions n.name.text) (meant_there definitions once before d after n.name.text e named ∙ ap Some is) in
      let size : length members ≡ sum_by (λ (k : PlainKind). length (members_in k)) (own_parts is_namespace definitions n.name.text) = length-flat_map members_in (own_parts is_namespace definitions n.name.text) in
      let split = ap (sum_by (λ (k : PlainKind). length (members_in k))) parts in
      let head = sum_by-cons (λ (k : PlainKind). length (members_in k)) (NamespaceDefinition n) (filter (adds_to is_namespace n.name.text) (map (λ (x : PlainDefinition). x.kind) definitions)) in
      let others = partial_members n.name.text definitions in
      let names : length (namespace_of definitions n).members.ops ≡ length (firsts_after [] (operations_in members)) = length-map (firsts_after [] (operations_in members)) (op_name_of definitions (operations_in members)) in
      let firsts = few_firsts [] (operations_in members) in
      let operations = few_operations members in
      omega (arith, size, split, head, others, names, firsts, operations)

  one_counted : (before : List PlainDefinition) (d : PlainDefinition) (after : List PlainDefinition) (kind : PlainKind) → definitions ≡ before ++ d ∷ after → d.kind ≡ kind → found_objects (namespace_if definitions kind) ≤ main_share kind + sum_by (λ (x : PlainDefinition). main_adds kind x.kind) definitions
  one_counted before d after (NamespaceDefinition n) e is = by n.partial refl
    where
      by : (p : Bool) → n.partial ≡ p → found_objects (cond p None (Some (namespace_of definitions n))) ≤ cond p 0 (1 + length n.members) + sum_by (λ (x : PlainDefinition). cond p 0 (added_to n.name.text x.kind)) definitions
      by true main = omega arith
      by false main = let few = few_names before d after n e is main in omega (arith, few)
  one_counted before d after kind e is = omega arith

  -- the namespaces of the list, with their operation names
  names_counted : (before after : List PlainDefinition) → definitions ≡ before ++ after
      → sum_by objects_for (filter_map (λ (d : PlainDefinition). namespace_if definitions d.kind) after) ≤ sum_by (λ (d : PlainDefinition). main_share d.kind + sum_by (λ (x : PlainDefinition). main_adds d.kind x.kind) definitions) after
  names_counted before [] e = omega arith
  names_counted before (d ∷ after) e =
      let here = one_counted before d after d.kind e refl in
      let more = with_found (namespace_if definitions d.kind) (filter_map (λ (x : PlainDefinition). namespace_if definitions x.kind) after) in
      let all = sum_by-cons (λ (y : PlainDefinition). main_share y.kind + sum_by (λ (x : PlainDefinition). main_adds y.kind x.kind) definitions) d after in
      let rest = names_counted (before ++ d ∷ []) after (e ∙ sym (append_assoc before (d ∷ []) after)) in
      omega (arith, here, more, all, rest)
    where
      with_found : (o : Option SpaceTerm) (spaces : List SpaceTerm) → sum_by objects_for (cons_option o spaces) ≡ found_objects o + sum_by objects_for spaces
      with_found None spaces = omega arith
      with_found (Some s) spaces = sum_by-cons objects_for s spaces

  pub names_within : sum_by objects_for (filter_map (λ (d : PlainDefinition). namespace_if definitions d.kind) definitions) ≤ namespace_shares definitions
  names_within = let counted = names_counted [] definitions refl in let shared = all_shared definitions once in omega (arith, counted, shared)

  -- a definition of a namespace is a portion of the sum that merging bounds
  module _ (mains : (s : Violation) → Somewhere (IsWithoutMain definitions) definitions s → ⊥) where
    takes_its_part : (before : List PlainDefinition) (d : PlainDefinition) (after : List PlainDefinition) (n : PlainContainerOfMembers) → definitions ≡ before ++ d ∷ after → d.kind ≡ NamespaceDefinition n
        → cond n.partial (is_kind kinds.Namespace (meant_kind definitions n.name.text)) (is_number (length before) (meaning definitions n.name.text)) ≡ true
    takes_its_part before d after n e is = by n.partial refl
      where
        listed : Contains definitions d
        listed = subst (λ l. Contains l d) (sym e) (Contains-append_right before (d ∷ after) d (zero, omega arith, refl))

        without : n.partial ≡ true → (meant_kind definitions n.name.text ≡ Some kinds.Namespace → ⊥) → IsWithoutMain definitions d (violation_at n.name.at)
        without partial other = subst (λ k. AtName (partial_name k) (λ name. meant_kind definitions name.text ≢ Some (kind_of k)) (violation_at n.name.at)) (sym is)
            (subst (λ p. AtName (cond p (Some n.name) None) (λ name. meant_kind definitions name.text ≢ Some kinds.Namespace) (violation_at n.name.at)) (sym partial) (other, refl))

        by_kind : (b : Bool) → is_kind kinds.Namespace (meant_kind definitions n.name.text) ≡ b → n.partial ≡ true → b ≡ true
        by_kind true h partial = refl
        by_kind false h partial = absurd (mains (violation_at n.name.at) (record { item = d; listed = listed; breaks = without partial (λ same. let bad : is_kind kinds.Namespace (meant_kind definitions n.name.text) ≡ true = ap (is_kind kinds.Namespace) same in cc) }))

        by : (p : Bool) → n.partial ≡ p → cond p (is_kind kinds.Namespace (meant_kind definitions n.name.text)) (is_number (length before) (meaning definitions n.name.text)) ≡ true
        by true partial = by_kind (is_kind kinds.Namespace (meant_kind definitions n.name.text)) refl partial
        by false main =
            ap (is_number (length before)) (means_there definitions once before d after n.name.text e (ap (λ k. is_text_of n.name.text (main_name k)) is ∙ own_name n main))
            ∙ (let same : nat_eq (length before) (length before) ≡ true = grind arith in same)

    portion_enough : (before : List PlainDefinition) (d : PlainDefinition) (after : List PlainDefinition) (kind : PlainKind) → definitions ≡ before ++ d ∷ after → d.kind ≡ kind → namespace_share kind ≤ sum_by (λ (p : Portion). p.size) (portion_of definitions (length before) kind)
    portion_enough before d after (NamespaceDefinition n) e is =
        subst (λ b. 1 + length n.members ≤ sum_by (λ (p : Portion). p.size) (cond b (record { at = n.name.at; size = 1 + length n.members } ∷ []) [])) (sym (takes_its_part before d after n e is)) (omega arith)
    portion_enough before d after kind e is = omega arith

    portions_enough : (before after : List PlainDefinition) (number : ℕ) → number ≡ length before → definitions ≡ before ++ after → namespace_shares after ≤ sum_by (λ (p : Portion). p.size) (portions_from definitions number after)
    portions_enough before [] number at e = omega arith
    portions_enough before (d ∷ after) number at e =
        let here : namespace_share d.kind ≤ sum_by (λ (p : Portion). p.size) (portion_of definitions number d.kind) = subst (λ k. namespace_share d.kind ≤ sum_by (λ (p : Portion). p.size) (portion_of definitions k d.kind)) (sym at) (portion_enough before d after d.kind e refl) in
        let long = length-append before (d ∷ []) in
        let rest = portions_enough (before ++ d ∷ []) after (number + 1) (omega (arith, long, at)) (e ∙ sym (append_assoc before (d ∷ []) after)) in
        let left = sum_by-cons (λ (x : PlainDefinition). namespace_share x.kind) d after in
        let right = sum_by-append (λ (p : Portion). p.size) (portion_of definitions number d.kind) (portions_from definitions (number + 1) after) in
        omega (arith, here, rest, left, right)

    pub shares_within : ((s : Violation) → AtOne PassesLimit (portions_from definitions 0 definitions) s → ⊥) → namespace_shares definitions ≤ 1000000
    shares_within limit =
        let enough = portions_enough [] definitions 0 refl refl in
        let within = within_limit (portions_from definitions 0 definitions) [] (portions_from definitions 0 definitions) refl (omega arith) limit in
        omega (arith, enough, within)

pub are_within_shares : AreWithinShares
are_within_shares set is =
    let definitions = definitions_of set.fragments in
    let spaces : (defs_term set.defs).spaces ≡ filter_map (λ (d : PlainDefinition). namespace_if (definitions_of set.fragments) d.kind) (definitions_of set.fragments) = ap (λ t. t.spaces) is.merged in
    let counted = objects_counted (defs_term set.defs).spaces in
    let same = ap (sum_by objects_for) spaces in
    let within = names_within (definitions_of set.fragments) (is.unbroken.merging rule.SecondDefinition) in
    omega (arith, counted, same, within)

pub are_shares_kept : AreSharesKept
are_shares_kept set is = shares_within (definitions_of set.fragments) (is.unbroken.merging rule.SecondDefinition) (is.unbroken.merging rule.PartialWithoutMain) (is.unbroken.merging rule.TooManyMembers)

pub are_few_objects : AreFewObjects
are_few_objects set is =
    let objects = are_within_shares set is in
    let kept = are_shares_kept set is in
    omega (arith, objects, kept)

-- so 32 bits can number them
pub room_there : (set : MergedSet) → IsMerged set.defs set.fragments → HasRoom 18 (defs_term set.defs).spaces
room_there set is =
    let objects = are_few_objects set is in
    let counted = objects_counted (defs_term set.defs).spaces in
    omega (arith, objects, counted)

-- and those of the next namespace, as a loop over the namespaces has it
pub room_next : (old objs : List Obj) (spaces : List Space) (i : ℕ) (s : Space) → HasRoom (length old) (map space_term spaces) → i < length spaces → s ≡ get_or spaces i s
    → objs ++ map object_of (namespaces_from (length objs) i (map space_term (drop i spaces))) ≡ old ++ map object_of (namespaces_from (length old) 0 (map space_term spaces))
    → after (length objs) (space_term s) < 2 ^ 32
room_next old objs spaces i s room small is so_far =
    let here = ap (λ l. sum_by objects_for (map space_term l)) (next_space spaces i s small is) in
    let first = sum_by-cons objects_for (space_term s) (map space_term (drop (i + 1) spaces)) in
    let same = ap length so_far in
    let left = length-append objs (map object_of (namespaces_from (length objs) i (map space_term (drop i spaces)))) in
    let left_size = length-map (namespaces_from (length objs) i (map space_term (drop i spaces))) object_of in
    let left_sum = spaces_counted (length objs) i (map space_term (drop i spaces)) in
    let right = length-append old (map object_of (namespaces_from (length old) 0 (map space_term spaces))) in
    let right_size = length-map (namespaces_from (length old) 0 (map space_term spaces)) object_of in
    let right_sum = spaces_counted (length old) 0 (map space_term spaces) in
    omega (arith, room, here, first, same, left, left_size, left_sum, right, right_size, right_sum)

one_each : (spaces : List SpaceTerm) → length spaces ≤ sum_by objects_for spaces
one_each [] = omega arith
one_each (s ∷ spaces) = let all = sum_by-cons objects_for s spaces in let rest = one_each spaces in omega (arith, all, rest)

-- and so the namespaces
pub few_spaces : (id : ℕ) (spaces : List Space) (i : ℕ) → HasRoom id (map space_term spaces) → i < length spaces → i < 2 ^ 32
few_spaces id spaces i room small =
    let each = one_each (map space_term spaces) in
    let size = length-map spaces space_term in
    omega (arith, room, small, each, size)

-- the namespaces come after the fixed objects
pub room_after : (first : List Obj) (spaces : List SpaceTerm) → first ≡ map object_of intrinsics → HasRoom 18 spaces → HasRoom (length first) spaces
room_after first spaces is room =
    let size = ap length is in
    let fixed = length-map intrinsics object_of in
    let known = intrinsics_are_18 in
    omega (arith, room, size, fixed, known)
