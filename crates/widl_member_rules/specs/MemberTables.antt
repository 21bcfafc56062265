-- For proofs alone. What the rules on the members of one owner keep of the members that stand before.
use Rattle.std.specs.Prelude.{if◌then◌else◌, ℕ, Bool, true, false, ◌&&◌, ◌||◌, not, nat_eq, List, Option, None, Some, bytes_eq, unwrap_or}
use Rattle.std.specs.Borrow.{Bor}
use Rattle.indexmap.specs.IndexMap.{IndexMap, get_by}
use Rattle.indexmap.specs.IndexSet.{IndexSet}
use Rattle.widl_text.specs.declared.place.Place.{Place}
use Rattle.widl_idl.specs.declared.violation.Violation.{Violation}
use Rattle.widl_idl.specs.First.{violation_at}
use Rattle.widl_idl.specs.MergedMembers.{operation_text}
use Rattle.widl_idl.specs.MergingRules.{both_or_none, is_static}
use Rattle.widl_idl.specs.PlainTypes.{PlainName}
use Rattle.widl_idl.specs.PlainTrees.{PlainDefinition, PlainOperation, PlainMemberKind, ConstructorMember, OperationMember}
use Rattle.widl_names.specs.declared.operation_names.OperationNames.{OperationNames}
use Rattle.widl_names.specs.KnownTexts.{has_name, has_text}
use Rattle.widl_overload.specs.rules.MemberRules.{returns_promise}

-- the place of a name whose text passes the test
abbrev pub violation_of_name : Option PlainName → (List ℕ → Bool) → Option Violation
violation_of_name None test = None
violation_of_name (Some name) test = if test name.text then Some (violation_at name.at) else None

-- whether a member, an operation or not, may not have a name, where operations and others have these names
abbrev pub clashes : {S : Type 0} → IndexSet (Bor (List ℕ)) S → IndexSet (Bor (List ℕ)) S → List ℕ → Bool → Bool
clashes operations others text operation = if operation then has_text others text else (has_text others text || has_text operations text)

-- whether an operation has this name, empty where it has none, and is static or not
abbrev pub has_overload : List ℕ → Bool → PlainOperation → Bool
has_overload text static o = bytes_eq text (operation_text o.name) && both_or_none static (is_static o.kind)

-- the count that is kept for a text
abbrev pub count_in : {S : Type 0} → IndexMap (Bor (List ℕ)) ℕ S → List ℕ → ℕ
count_in counts text = unwrap_or (get_by (λ k. bytes_eq text k.now) counts) 0

-- the count that is kept for the operations of a name, static or not
abbrev pub overload_count : {S : Type 0} → IndexMap (Bor (List ℕ)) ℕ S → IndexMap (Bor (List ℕ)) ℕ S → List ℕ → Bool → ℕ
overload_count regular fixed text static = if static then count_in fixed text else count_in regular text

-- whether a member is an operation of this name, static or not
abbrev pub is_overload : List ℕ → Bool → PlainMemberKind → Bool
is_overload text static (OperationMember o) = has_overload text static o
is_overload text static kind = false

abbrev pub is_constructor : PlainMemberKind → Bool
is_constructor (ConstructorMember c) = true
is_constructor kind = false

-- the place of a member that follows 64 overloads, by these counts
abbrev pub violation_past_limit : (List ℕ → Bool → ℕ) → ℕ → PlainMemberKind → Option Violation
violation_past_limit overloads constructors (OperationMember o) = violation_of_name o.name (λ text. nat_eq (overloads text (is_static o.kind)) 64)
violation_past_limit overloads constructors (ConstructorMember c) = if nat_eq constructors 64 then Some (violation_at c.at) else None
violation_past_limit overloads constructors kind = None

-- whether a member is an operation that returns a promise
abbrev pub gives_promise : List PlainDefinition → PlainMemberKind → Bool
gives_promise definitions (OperationMember o) = returns_promise definitions o
gives_promise definitions kind = false

-- whether an operation of this name, static or not, is known that returns a promise, or one that returns none
abbrev pub has_returned : (promises others : OperationNames) → List ℕ → Bool → Bool → Bool
has_returned promises others text static promise = if promise then has_name promises text static else has_name others text static

-- the place of the name of an operation that returns a promise, or none, where all that are known of its name don't
abbrev pub violation_of_other : (List ℕ → Bool → Bool → Bool) → Bool → PlainMemberKind → Option Violation
violation_of_other known promise (OperationMember o) = violation_of_name o.name (λ text. known text (is_static o.kind) (not promise) && not (known text (is_static o.kind) promise))
violation_of_other known promise kind = None

-- the violation at a place, where there is one and something stands before
abbrev pub violation_after : Bool → Option Place → Option Violation
violation_after seen None = None
violation_after seen (Some place) = if seen then Some (violation_at place) else None
