-- The rules of validity on lists of arguments, each as one predicate.
-- Source: Web IDL, "Operations" and "arguments".
use Rattle.std.specs.Prelude.{if◌then◌else◌, ◌≡◌, ℕ, Bool, true, false, List, [], ◌∷◌, length, flat_map, Option, bytes_eq}
use Rattle.std.specs.Option.{option_to_list}
use Rattle.std.specs.List.{list_any}
use Rattle.widl_text.specs.Limits.{most_arguments}
use Rattle.widl_idl.specs.declared.violation.Violation.{Violation}
use Rattle.widl_idl.specs.First.{AtOne, Somewhere}
use Rattle.widl_idl.specs.MergingRules.{IsAt}
use Rattle.widl_idl.specs.Parts.{members_in}
use Rattle.widl_idl.specs.PlainTrees.{PlainArgument, PlainArgumentKind, RequiredArgument, OptionalArgument, VariadicArgument, PlainMember, PlainMemberKind, OperationMember, ConstructorMember, AsyncIterableMember, PlainDefinition, PlainKind, CallbackFunctionDefinition, CallbackInterfaceDefinition}

-- the list of arguments of a member, if it has one; that of an asynchronous iterable only where all lists are meant
abbrev pub lists_in_member : Bool → PlainMemberKind → List (List PlainArgument)
lists_in_member all (OperationMember o) = o.arguments ∷ []
lists_in_member all (ConstructorMember c) = c.arguments ∷ []
lists_in_member all (AsyncIterableMember i) = if all then option_to_list i.arguments else []
lists_in_member all kind = []

abbrev pub lists_in_members : Bool → List PlainMember → List (List PlainArgument)
lists_in_members all members = flat_map (λ (m : PlainMember). lists_in_member all m.kind) members

-- the lists of a definition; those of a callback only where all are meant
abbrev pub lists_in_definition : Bool → PlainKind → List (List PlainArgument)
lists_in_definition all (CallbackFunctionDefinition c) = if all then c.arguments ∷ [] else []
lists_in_definition all (CallbackInterfaceDefinition c) = if all then lists_in_members all c.members else []
lists_in_definition all kind = lists_in_members all (members_in kind)

-- the lists of arguments that are written in these definitions: all of them, or those of operations and constructors that aren't of callbacks
abbrev pub argument_lists_of : Bool → List PlainDefinition → List (List PlainArgument)
argument_lists_of all definitions = flat_map (λ (d : PlainDefinition). lists_in_definition all d.kind) definitions

-- rule 13: an earlier argument has the name: at the name
abbrev pub RepeatsArgument : List PlainArgument → PlainArgument → Violation → Type 0
RepeatsArgument before a s = (list_any (λ (b : PlainArgument). bytes_eq b.name.text a.name.text) before ≡ true) × IsAt a.name.at s

-- the ellipsis of an argument, if it has one
abbrev pub AtEllipsis : PlainArgumentKind → Violation → Type 0
AtEllipsis (VariadicArgument ellipsis) s = IsAt ellipsis s
AtEllipsis kind s = ⊥

-- rule 14: an argument follows one with an ellipsis: at the ellipsis
abbrev pub FollowsEllipsis : List PlainArgument → PlainArgument → Violation → Type 0
FollowsEllipsis before a s = Somewhere (λ (b : PlainArgument). AtEllipsis b.kind) before s

abbrev pub is_required : PlainArgumentKind → Bool
is_required RequiredArgument = true
is_required kind = false

abbrev pub is_optional : PlainArgumentKind → Bool
is_optional (OptionalArgument default) = true
is_optional kind = false

-- rule 15: a required argument follows an optional one: at its name
abbrev pub FollowsOptional : List PlainArgument → PlainArgument → Violation → Type 0
FollowsOptional before a s = ((is_required a.kind ≡ true) × (list_any (λ (b : PlainArgument). is_optional b.kind) before ≡ true)) × IsAt a.name.at s

-- rule 45: as many arguments as a list may have stand before this one: at its name
abbrev pub IsArgumentPastLimit : List PlainArgument → PlainArgument → Violation → Type 0
IsArgumentPastLimit before a s = (length before ≡ most_arguments) × IsAt a.name.at s

-- in one of the lists of a definition an argument breaks the rule
abbrev pub InOneList : (List PlainArgument → PlainArgument → Violation → Type 0) → PlainDefinition → Violation → Type 0
InOneList Breaks d s = Somewhere (AtOne Breaks) (lists_in_definition true d.kind) s
