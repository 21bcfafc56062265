-- The rules of validity on the members of interfaces and namespaces with their partials and mixins, each as one predicate over the members in merged order.
-- Source: Web IDL, "Members", "Constants", "Overloading" and "Stringifiers".
use Rattle.std.specs.Prelude.{◌≡◌, ℕ, Bool, true, false, ◌||◌, ◌&&◌, not, List, length, filter, filter_map, Option, None, Some, bytes_eq, codes}
use Rattle.std.specs.List.{list_any}
use Rattle.widl_text.specs.Limits.{most_overloads}
use Rattle.widl_text.specs.declared.place.Place.{Place}
use Rattle.widl_idl.specs.declared.kind.Kind.{Kind}
use Rattle.widl_idl.specs.declared.kind.Kind.TheVariants as kinds
use Rattle.widl_idl.specs.declared.violation.Violation.{Violation}
use Rattle.widl_idl.specs.declared.tree.members.AttributeKind.{AttributeKind}
use Rattle.widl_idl.specs.declared.tree.members.AttributeKind.TheVariants as attribute_kind
use Rattle.widl_idl.specs.First.{AtOne}
use Rattle.widl_idl.specs.Meanings.{meant_kind, same_kind}
use Rattle.widl_idl.specs.MergedMembers.{are_overloads, has, is_static_attribute, is_stringifier, operations_in}
use Rattle.widl_idl.specs.MergingRules.{AtName, IsAt, both_or_none, is_static}
use Rattle.widl_idl.specs.Parts.{merged_members}
use Rattle.widl_idl.specs.PlainTypes.{PlainName}
use Rattle.widl_idl.specs.PlainTrees.{PlainOperation, PlainMember, PlainMemberKind, ConstantMember, AttributeMember, OperationMember, ConstructorMember, StringifierMember, PlainDefinition}
use Rattle.widl_idl.specs.Terms.{TypeTerm, PromiseType}
use Rattle.widl_idl.specs.WrittenTypes.{meaning_alone}

-- of the interface or the namespace that a name means one of the members, which are seen in merged order with those before it, breaks the rule
pub record InOneOwner (asked : Kind → Bool) (Breaks : List PlainMember → PlainMember → Violation → Type 0) (definitions : List PlainDefinition) (s : Violation) : Type 0 where
  pub text : List ℕ
  pub kind : Kind
  pub means : meant_kind definitions text ≡ Some kind
  pub is_asked : asked kind ≡ true
  pub breaks : AtOne Breaks (merged_members definitions kind text) s

abbrev pub is_interface_kind : Kind → Bool
is_interface_kind kind = same_kind kinds.Interface kind

abbrev pub has_members_of_its_own : Kind → Bool
has_members_of_its_own kind = same_kind kinds.Interface kind || same_kind kinds.Namespace kind

-- the identifier of a member: the name of a constant, an attribute or an operation
abbrev pub identifier : PlainMemberKind → Option PlainName
identifier (ConstantMember c) = Some c.name
identifier (AttributeMember a) = Some a.name
identifier (OperationMember o) = o.name
identifier kind = None

abbrev pub is_operation : PlainMemberKind → Bool
is_operation (OperationMember o) = true
is_operation kind = false

abbrev pub is_named : List ℕ → Option PlainName → Bool
is_named text None = false
is_named text (Some name) = bytes_eq name.text text

-- whether two members may not share a name: one of them is no operation
abbrev pub excludes : PlainMemberKind → PlainMemberKind → Bool
excludes a b = not (is_operation a && is_operation b)

-- rule 42: an earlier member has the identifier, and not both are operations: at the identifier
abbrev pub RepeatsMember : List PlainMember → PlainMember → Violation → Type 0
RepeatsMember before m s = AtName (identifier m.kind) (λ name. list_any (λ (b : PlainMember). is_named name.text (identifier b.kind) && excludes b.kind m.kind) before ≡ true) s

-- whether a member is static
abbrev pub is_static_member : PlainMemberKind → Bool
is_static_member (AttributeMember a) = is_static_attribute a.kind
is_static_member (OperationMember o) = is_static o.kind
is_static_member kind = false

abbrev pub is_constant : PlainMemberKind → Bool
is_constant (ConstantMember c) = true
is_constant kind = false

-- whether an interface object has a property of its own for which a static member or a constant may not stand
abbrev pub is_kept_name : PlainMemberKind → List ℕ → Bool
is_kept_name kind text =
    (bytes_eq text (codes "prototype") && (is_static_member kind || is_constant kind))
    || (is_constant kind && (bytes_eq text (codes "length") || bytes_eq text (codes "name")))

-- rule 43: a static member or a constant of an interface has a name that it may not have: at the name
abbrev pub HasKeptName : List PlainMember → PlainMember → Violation → Type 0
HasKeptName before m s = AtName (identifier m.kind) (λ name. is_kept_name m.kind name.text ≡ true) s

abbrev pub constructor_place : PlainMemberKind → Option Place
constructor_place (ConstructorMember c) = Some c.at
constructor_place kind = None

-- how many constructors there are among members
abbrev pub constructor_count : List PlainMember → ℕ
constructor_count members = length (filter_map (λ (m : PlainMember). constructor_place m.kind) members)

-- as many operations of its name, static or not as it is, or as many constructors, as may be stand before the member: at its name or its word
abbrev pub IsOverloadPastLimit : List PlainMember → PlainMemberKind → Violation → Type 0
IsOverloadPastLimit before (OperationMember o) s = AtName o.name (λ name. length (filter (are_overloads o) (operations_in before)) ≡ most_overloads) s
IsOverloadPastLimit before (ConstructorMember c) s = (constructor_count before ≡ most_overloads) × IsAt c.at s
IsOverloadPastLimit before kind s = ⊥

-- rule 44: a member is an overload past the limit: at its name or its word
abbrev pub HasOverloadPastLimit : List PlainMember → PlainMember → Violation → Type 0
HasOverloadPastLimit before m s = IsOverloadPastLimit before m.kind s

abbrev pub is_promise : TypeTerm → Bool
is_promise (PromiseType t) = true
is_promise t = false

-- whether an operation returns a promise
abbrev pub returns_promise : List PlainDefinition → PlainOperation → Bool
returns_promise definitions o = is_promise (meaning_alone definitions o.returned)

-- whether two operations are overloads, and both return promises or both return none
abbrev pub agree_on_promises : List PlainDefinition → PlainOperation → PlainOperation → Bool
agree_on_promises definitions o p = are_overloads o p && both_or_none (returns_promise definitions o) (returns_promise definitions p)

-- the first of its overloads to return a promise where earlier ones return none, or to return none where earlier ones return promises: at its name
abbrev pub DiffersInPromise : List PlainDefinition → List PlainMember → PlainMemberKind → Violation → Type 0
DiffersInPromise definitions before (OperationMember o) s = AtName o.name (λ name. (list_any (are_overloads o) (operations_in before) ≡ true) × (list_any (agree_on_promises definitions o) (operations_in before) ≡ false)) s
DiffersInPromise definitions before kind s = ⊥

-- rule 38: of the operations of a name some return a promise and some do not: at the first that differs
abbrev pub MixesPromises : List PlainDefinition → List PlainMember → PlainMember → Violation → Type 0
MixesPromises definitions before m s = DiffersInPromise definitions before m.kind s

-- where the word `stringifier` of a member stands
abbrev pub word_of_attribute : AttributeKind → Option Place
word_of_attribute (attribute_kind.Stringifier place) = Some place
word_of_attribute kind = None

abbrev pub stringifier_place : PlainMemberKind → Option Place
stringifier_place (StringifierMember at) = Some at
stringifier_place (AttributeMember a) = word_of_attribute a.kind
stringifier_place kind = None

abbrev pub AtPlace : Option Place → Violation → Type 0
AtPlace None s = ⊥
AtPlace (Some place) s = IsAt place s

-- rule 34: an earlier member is a stringifier too: at the word
abbrev pub IsSecondStringifier : List PlainMember → PlainMember → Violation → Type 0
IsSecondStringifier before m s = (has is_stringifier before ≡ true) × AtPlace (stringifier_place m.kind) s
