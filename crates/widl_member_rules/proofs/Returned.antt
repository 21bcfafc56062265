-- What the overloads that stand before return, and the first violation at which an operation returns the other.
use Rattle.std.proofs.Common.{◌≡◌, ℕ, ◌+◌, ◌<◌, ◌≤◌, ◌++◌, Bool, true, false, ◌&&◌, ◌||◌, not, List, [], ◌∷◌, length, take, get_or, Option, None, Some, refl, sym, ap, ◌∙◌, append-nil, Bor}
use Rattle.std.specs.List.{list_any, cons_option}
use Rattle.std.proofs.Math.Bool.{or-false}
use Rattle.widl_idl.specs.declared.violation.Violation.{Violation}
use Rattle.widl_idl.specs.declared.tree.members.Member.{Member}
use Rattle.widl_idl.specs.First.{AtOne, FirstWhere, earlier}
use Rattle.widl_idl.specs.MergedMembers.{are_overloads, operation_in, operation_text, operations_in}
use Rattle.widl_idl.specs.MergingRules.{both_or_none, is_static}
use Rattle.widl_idl.specs.PlainTypes.{PlainName}
use Rattle.widl_idl.specs.PlainTrees.{PlainDefinition, PlainMember, PlainMemberKind, PlainOperation, OperationMember, member_of}
use Rattle.widl_overload.specs.rules.MemberRules.{DiffersInPromise, MixesPromises, agree_on_promises, returns_promise}
use Rattle.widl_member_rules.specs.MemberTables.{gives_promise, has_overload, is_overload, violation_of_other}
use Rattle.widl_member_rules.proofs.Counted.{operations_push}
use Rattle.widl_names.proofs.MappedLoops.{any_push, at_one_end, at_one_step, listed_next, none_at_one}
use Rattle.widl_member_rules.proofs.NamedViolations.{named_first, nowhere}
use Rattle.widl_names.specs.Listings.{listed_members}

-- a test, split by whether another one holds
split_by : (t g r : Bool) → ((t && both_or_none g r) || (t && both_or_none (not g) r)) ≡ t
split_by true true true = refl
split_by true true false = refl
split_by true false true = refl
split_by true false false = refl
split_by false g r = refl

or_turned : (a b c d : Bool) → ((a || b) || (c || d)) ≡ ((a || c) || (b || d))
or_turned true b true d = refl
or_turned true b false d = refl
or_turned false true true d = refl
or_turned false true false d = refl
or_turned false false true d = refl
or_turned false false false d = refl

module _ (definitions : List PlainDefinition) where
  -- whether an operation has this name, and returns a promise or not
  abbrev pub returns_alike : List ℕ → Bool → Bool → PlainOperation → Bool
  returns_alike text static promise o = has_overload text static o && both_or_none promise (returns_promise definitions o)

  -- an overload returns a promise or returns none
  any_split : (text : List ℕ) (static promise : Bool) (operations : List PlainOperation) → list_any (has_overload text static) operations ≡ (list_any (returns_alike text static promise) operations || list_any (returns_alike text static (not promise)) operations)
  any_split text static promise [] = refl
  any_split text static promise (o ∷ more) =
      ap (λ b. b || list_any (has_overload text static) more) (sym (split_by (has_overload text static o) promise (returns_promise definitions o)))
      ∙ ap (λ b. (returns_alike text static promise o || returns_alike text static (not promise) o) || b) (any_split text static promise more)
      ∙ or_turned (returns_alike text static promise o) (returns_alike text static (not promise) o) (list_any (returns_alike text static promise) more) (list_any (returns_alike text static (not promise)) more)

  returned_push : (text : List ℕ) (static promise : Bool) (operations : List PlainOperation) (kind : PlainMemberKind)
      → list_any (returns_alike text static promise) (operations ++ cons_option (operation_in kind) []) ≡ (list_any (returns_alike text static promise) operations || (is_overload text static kind && both_or_none promise (gives_promise definitions kind)))
  returned_push text static promise operations (OperationMember o) = any_push (returns_alike text static promise) operations o
  returned_push text static promise operations kind = ap (list_any (returns_alike text static promise)) (append-nil operations) ∙ sym (or-false (list_any (returns_alike text static promise) operations))

differs : (all indistinguishable other : Bool) → all ≡ (indistinguishable || other) → (other && not indistinguishable) ≡ true → (all ≡ true) × (indistinguishable ≡ false)
differs all true true e h = absurd (cc)
differs all true false e h = absurd (cc)
differs all false true e h = (e, refl)
differs all false false e h = absurd (cc)

differs_not : (all indistinguishable other : Bool) → all ≡ (indistinguishable || other) → (other && not indistinguishable) ≡ false → all ≡ true → indistinguishable ≡ false → ⊥
differs_not all true other e h a b = absurd (cc)
differs_not all false true e h a b = absurd (cc)
differs_not all false false e h a b = absurd (cc)

-- what the overloads of the members return is known, and the first violation at which an operation returns the other
pub record Returned (known : List ℕ → Bool → Bool → Bool) (definitions : List PlainDefinition) (members : List PlainMember) (best : Option Violation) : Type 0 where
  pub names : (text : List ℕ) (static promise : Bool) → known text static promise ≡ list_any (returns_alike definitions text static promise) (operations_in members)
  pub earliest : FirstWhere (AtOne (MixesPromises definitions) members) best

pub nothing_returned : (known : List ℕ → Bool → Bool → Bool) (definitions : List PlainDefinition) → ((text : List ℕ) (static promise : Bool) → known text static promise ≡ false) → Returned known definitions [] None
nothing_returned known definitions none = record { names = none; earliest = none_at_one (MixesPromises definitions) }

module _ (known : List ℕ → Bool → Bool → Bool) (definitions : List PlainDefinition) (before : List PlainMember) (same : (text : List ℕ) (static promise : Bool) → known text static promise ≡ list_any (returns_alike definitions text static promise) (operations_in before)) where
  -- of a named operation
  of_name : (o : PlainOperation) (n : PlainName) (promise : Bool) → o.name ≡ Some n → known n.text (is_static o.kind) promise ≡ list_any (returns_alike definitions (operation_text o.name) (is_static o.kind) promise) (operations_in before)
  of_name o n promise is = same n.text (is_static o.kind) promise ∙ ap (λ text. list_any (returns_alike definitions text (is_static o.kind) promise) (operations_in before)) (sym (ap operation_text is))

  split_known : (o : PlainOperation) (n : PlainName) (promise : Bool) → o.name ≡ Some n → list_any (are_overloads o) (operations_in before) ≡ (known n.text (is_static o.kind) promise || known n.text (is_static o.kind) (not promise))
  split_known o n promise is =
      any_split definitions (operation_text o.name) (is_static o.kind) promise (operations_in before)
      ∙ ap (λ b. b || list_any (returns_alike definitions (operation_text o.name) (is_static o.kind) (not promise)) (operations_in before)) (sym (of_name o n promise is))
      ∙ ap (λ b. known n.text (is_static o.kind) promise || b) (sym (of_name o n (not promise) is))

  other_first : (promise : Bool) (kind : PlainMemberKind) (found : Option Violation) → promise ≡ gives_promise definitions kind → found ≡ violation_of_other known promise kind → FirstWhere (DiffersInPromise definitions before kind) found
  other_first promise (OperationMember o) found p e =
      let own = returns_promise definitions o in
      let all = list_any (are_overloads o) (operations_in before) in
      let indistinguishable = list_any (agree_on_promises definitions o) (operations_in before) in
      named_first (λ name. (all ≡ true) × (indistinguishable ≡ false)) (λ text. known text (is_static o.kind) (not own) && not (known text (is_static o.kind) own)) o.name found
      (λ n is h. let d = differs all (known n.text (is_static o.kind) own) (known n.text (is_static o.kind) (not own)) (split_known o n own is) h in (d.0, sym (of_name o n own is) ∙ d.1))
      (λ n is h q. differs_not all (known n.text (is_static o.kind) own) (known n.text (is_static o.kind) (not own)) (split_known o n own is) h q.0 (of_name o n own is ∙ q.1))
      (e ∙ ap (λ b. violation_of_other known b (OperationMember o)) p)
  other_first promise kind found p e = nowhere (DiffersInPromise definitions before kind) found (λ s h. h) e

-- one member more
pub returned_step : (known now_known : List ℕ → Bool → Bool → Bool) (definitions : List PlainDefinition) (members : List (Bor Member)) (i : ℕ) (m : Bor Member) (promise : Bool) (best found now : Option Violation) → i < length members → m ≡ get_or members i m
    → promise ≡ gives_promise definitions (member_of m.now).kind → found ≡ violation_of_other known promise (member_of m.now).kind → now ≡ earlier best found
    → ((text : List ℕ) (static asked : Bool) → now_known text static asked ≡ (known text static asked || (is_overload text static (member_of m.now).kind && both_or_none asked promise)))
    → Returned known definitions (listed_members (take i members)) best → Returned now_known definitions (listed_members (take (i + 1) members)) now
returned_step known now_known definitions members i m promise best found now below is p f e adds r =
    let before = listed_members (take i members) in
    let kind = (member_of m.now).kind in
    record {
      names = λ text static asked.
          adds text static asked ∙ ap (λ b. b || (is_overload text static kind && both_or_none asked promise)) (r.names text static asked)
          ∙ ap (λ b. list_any (returns_alike definitions text static asked) (operations_in before) || (is_overload text static kind && both_or_none asked b)) p
          ∙ sym (returned_push definitions text static asked (operations_in before) kind)
          ∙ ap (list_any (returns_alike definitions text static asked)) (sym (operations_push before (member_of m.now)))
          ∙ ap (λ ms. list_any (returns_alike definitions text static asked) (operations_in ms)) (sym (listed_next members i m below is));
      earliest = at_one_step (λ (x : Bor Member). member_of x.now) members (MixesPromises definitions) i m best found now below is e (other_first known definitions before r.names promise kind found p f) r.earliest;
    }

pub returned_end : (known : List ℕ → Bool → Bool → Bool) (definitions : List PlainDefinition) (members : List (Bor Member)) (i : ℕ) (best : Option Violation) → length members ≤ i → Returned known definitions (listed_members (take i members)) best → FirstWhere (AtOne (MixesPromises definitions) (listed_members members)) best
returned_end known definitions members i best past r = at_one_end (λ (x : Bor Member). member_of x.now) members (MixesPromises definitions) i best past r.earliest
