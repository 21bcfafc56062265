-- The overloads that stand before, and the first violation at which a member follows 64 of them.
use Rattle.std.proofs.Common.{◌≡◌, ℕ, ◌+◌, ◌<◌, ◌≤◌, ◌++◌, Bool, true, false, cond, nat_eq, List, [], ◌∷◌, length, take, filter, filter_map, get_or, Option, None, Some, arith, refl, sym, ap, ◌∙◌, bytes_eq, unwrap_or, append-nil, length-append, Bor}
use Rattle.std.specs.Map.{update}
use Rattle.std.specs.List.{cons_option}
use Rattle.std.proofs.lemmas.List.Elements.{filter-append, filter_map-append}
use Rattle.std.proofs.lemmas.Slice.Eq.{bytes_eq-Decides}
use Rattle.indexmap.specs.IndexMap.{IndexMap, get_by}
use Rattle.widl_text.specs.declared.place.Place.{Place}
use Rattle.widl_idl.specs.declared.violation.Violation.{Violation}
use Rattle.widl_idl.specs.declared.tree.members.Member.{Member}
use Rattle.widl_idl.specs.First.{AtOne, FirstWhere, earlier}
use Rattle.widl_idl.specs.MergedMembers.{are_overloads, operation_in, operation_text, operations_in}
use Rattle.widl_idl.specs.MergingRules.{is_static}
use Rattle.widl_idl.specs.PlainTypes.{PlainName}
use Rattle.widl_idl.specs.PlainTrees.{PlainMember, PlainMemberKind, PlainOperation, ConstructorMember, OperationMember, member_of}
use Rattle.widl_idl.proofs.Order.{one_place}
use Rattle.widl_overload.specs.rules.MemberRules.{HasOverloadPastLimit, IsOverloadPastLimit, constructor_count, constructor_place}
use Rattle.widl_member_rules.specs.MemberTables.{count_in, has_overload, is_constructor, is_overload, violation_past_limit}
use Rattle.widl_names.proofs.MappedLoops.{at_one_end, at_one_step, listed_next, none_at_one}
use Rattle.widl_member_rules.proofs.NamedViolations.{named_first, nowhere}
use Rattle.widl_names.specs.Listings.{listed_members}

-- what is kept for a text, with one more counted for one
pub count_kept : {S : Type 0} (old new : IndexMap (Bor (List ℕ)) ℕ S) (text other : List ℕ) (total : ℕ) → total ≡ count_in old text + 1
    → get_by (λ k. bytes_eq other k.now) new ≡ update bytes_eq (λ words. get_by (λ k. bytes_eq words k.now) old) text (Some total) other
    → count_in new other ≡ cond (bytes_eq other text) (count_in old other + 1) (count_in old other)
count_kept {S} old new text other total t e = by_test (bytes_eq text other) (bytes_eq other text) refl refl
  where
    by_test : (b d : Bool) → bytes_eq text other ≡ b → bytes_eq other text ≡ d → count_in new other ≡ cond d (count_in old other + 1) (count_in old other)
    by_test true true h g = let same : text ≡ other = grind (arith, bytes_eq-Decides text other) in ap (λ o. unwrap_or o 0) (e ∙ ap (λ b. cond b (Some total) (get_by (λ k. bytes_eq other k.now) old)) h) ∙ t ∙ ap (λ words. count_in old words + 1) same
    by_test false false h g = ap (λ o. unwrap_or o 0) (e ∙ ap (λ b. cond b (Some total) (get_by (λ k. bytes_eq other k.now) old)) h)
    by_test true false h g = absurd (grind (arith, bytes_eq-Decides text other, bytes_eq-Decides other text))
    by_test false true h g = absurd (grind (arith, bytes_eq-Decides text other, bytes_eq-Decides other text))

-- the overloads of a name among members
abbrev pub overloads_in : List PlainMember → List ℕ → Bool → List PlainOperation
overloads_in members text static = filter (has_overload text static) (operations_in members)

size_by : {X : Type 0} (b : Bool) (xs : List X) (x : X) → length (xs ++ cond b (x ∷ []) []) ≡ cond b (length xs + 1) (length xs)
size_by true xs x = length-append xs (x ∷ [])
size_by false xs x = ap length (append-nil xs)

pushed_operations : (text : List ℕ) (static : Bool) (operations : List PlainOperation) (o : PlainOperation) → length (filter (has_overload text static) (operations ++ o ∷ [])) ≡ cond (has_overload text static o) (length (filter (has_overload text static) operations) + 1) (length (filter (has_overload text static) operations))
pushed_operations text static operations o = ap length (filter-append (has_overload text static) operations (o ∷ [])) ∙ size_by (has_overload text static o) (filter (has_overload text static) operations) o

-- the operations of a list with one member more
pub operations_push : (before : List PlainMember) (m : PlainMember) → operations_in (before ++ m ∷ []) ≡ operations_in before ++ operations_in (m ∷ [])
operations_push before m = filter_map-append (λ (x : PlainMember). operation_in x.kind) before (m ∷ [])

overloads_push : (text : List ℕ) (static : Bool) (operations : List PlainOperation) (kind : PlainMemberKind)
    → length (filter (has_overload text static) (operations ++ cons_option (operation_in kind) [])) ≡ cond (is_overload text static kind) (length (filter (has_overload text static) operations) + 1) (length (filter (has_overload text static) operations))
overloads_push text static operations (OperationMember o) = pushed_operations text static operations o
overloads_push text static operations kind = ap (λ os. length (filter (has_overload text static) os)) (append-nil operations)

constructors_by : (places : List Place) (kind : PlainMemberKind) → length (places ++ cons_option (constructor_place kind) []) ≡ cond (is_constructor kind) (length places + 1) (length places)
constructors_by places (ConstructorMember c) = length-append places (c.at ∷ [])
constructors_by places kind = ap length (append-nil places)

constructors_push : (before : List PlainMember) (m : PlainMember) → constructor_count (before ++ m ∷ []) ≡ cond (is_constructor m.kind) (constructor_count before + 1) (constructor_count before)
constructors_push before m = ap length (filter_map-append (λ (x : PlainMember). constructor_place x.kind) before (m ∷ [])) ∙ constructors_by (filter_map (λ (x : PlainMember). constructor_place x.kind) before) m.kind

-- the overloads are counted, and the first violation at which a member follows 64 of them
pub record Counted (overloads : List ℕ → Bool → ℕ) (constructors : ℕ) (members : List PlainMember) (best : Option Violation) : Type 0 where
  pub operations : (text : List ℕ) (static : Bool) → overloads text static ≡ length (overloads_in members text static)
  pub made : constructors ≡ constructor_count members
  pub earliest : FirstWhere (AtOne HasOverloadPastLimit members) best

pub nothing_counted : (overloads : List ℕ → Bool → ℕ) (constructors : ℕ) → ((text : List ℕ) (static : Bool) → overloads text static ≡ 0) → constructors ≡ 0 → Counted overloads constructors [] None
nothing_counted overloads constructors none zero = record { operations = none; made = zero; earliest = none_at_one HasOverloadPastLimit }

module _ (overloads : List ℕ → Bool → ℕ) (constructors : ℕ) (before : List PlainMember) (same : (text : List ℕ) (static : Bool) → overloads text static ≡ length (overloads_in before text static)) (made : constructors ≡ constructor_count before) where
  -- the overloads of a named operation
  of_name : (o : PlainOperation) (n : PlainName) → o.name ≡ Some n → overloads n.text (is_static o.kind) ≡ length (filter (are_overloads o) (operations_in before))
  of_name o n is = same n.text (is_static o.kind) ∙ ap (λ text. length (overloads_in before text (is_static o.kind))) (sym (ap operation_text is))

  past_first : (kind : PlainMemberKind) (found : Option Violation) → found ≡ violation_past_limit overloads constructors kind → FirstWhere (IsOverloadPastLimit before kind) found
  past_first (OperationMember o) found e =
      named_first (λ name. length (filter (are_overloads o) (operations_in before)) ≡ 64) (λ text. nat_eq (overloads text (is_static o.kind)) 64) o.name found
      (λ n is h. let count = of_name o n is in grind arith) (λ n is h q. let count = of_name o n is in absurd (grind arith)) e
  past_first (ConstructorMember c) found e = one_place (constructor_count before ≡ 64) c.at (nat_eq constructors 64) found (λ h. grind (arith, made)) (λ h q. absurd (grind (arith, made))) e
  past_first kind found e = nowhere (IsOverloadPastLimit before kind) found (λ s h. h) e

-- one member more
pub counted_step : (overloads now_overloads : List ℕ → Bool → ℕ) (constructors now_constructors : ℕ) (members : List (Bor Member)) (i : ℕ) (m : Bor Member) (best found now : Option Violation) → i < length members → m ≡ get_or members i m
    → found ≡ violation_past_limit overloads constructors (member_of m.now).kind → now ≡ earlier best found
    → ((text : List ℕ) (static : Bool) → now_overloads text static ≡ cond (is_overload text static (member_of m.now).kind) (overloads text static + 1) (overloads text static))
    → now_constructors ≡ cond (is_constructor (member_of m.now).kind) (constructors + 1) constructors
    → Counted overloads constructors (listed_members (take i members)) best → Counted now_overloads now_constructors (listed_members (take (i + 1) members)) now
counted_step overloads now_overloads constructors now_constructors members i m best found now below is f e adds makes r =
    let before = listed_members (take i members) in
    let kind = (member_of m.now).kind in
    record {
      operations = λ text static.
          adds text static ∙ ap (λ n. cond (is_overload text static kind) (n + 1) n) (r.operations text static) ∙ sym (overloads_push text static (operations_in before) kind)
          ∙ ap (λ os. length (filter (has_overload text static) os)) (sym (operations_push before (member_of m.now))) ∙ ap (λ ms. length (overloads_in ms text static)) (sym (listed_next members i m below is));
      made = makes ∙ ap (λ n. cond (is_constructor kind) (n + 1) n) r.made ∙ sym (constructors_push before (member_of m.now)) ∙ ap constructor_count (sym (listed_next members i m below is));
      earliest = at_one_step (λ (x : Bor Member). member_of x.now) members HasOverloadPastLimit i m best found now below is e (past_first overloads constructors before r.operations r.made kind found f) r.earliest;
    }

-- a count that is no more than the members before
pub within_next : (b : Bool) (old now i : ℕ) → now ≡ cond b (old + 1) old → old ≤ i → now ≤ i + 1
within_next true old now i e below = omega (arith, e, below)
within_next false old now i e below = omega (arith, e, below)

pub counted_end : (overloads : List ℕ → Bool → ℕ) (constructors : ℕ) (members : List (Bor Member)) (i : ℕ) (best : Option Violation) → length members ≤ i → Counted overloads constructors (listed_members (take i members)) best → FirstWhere (AtOne HasOverloadPastLimit (listed_members members)) best
counted_end overloads constructors members i best past r = at_one_end (λ (x : Bor Member). member_of x.now) members HasOverloadPastLimit i best past r.earliest
