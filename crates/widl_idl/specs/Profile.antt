-- The forms of Web IDL that the profile leaves unsupported, each with its rule and its place.
use Rattle.std.specs.Prelude.{◌≡◌, ℕ, Bool, true, false, ◌||◌, List, [], ◌∷◌, Option, None, Some, if◌then◌else◌, option_map, codes, bytes_eq}
use Rattle.widl_text.specs.declared.place.Place.{Place}
use Rattle.widl_idl.specs.declared.violation.Violation.{Violation}
use Rattle.widl_idl.specs.declared.profile_rule.Unsupported.{Unsupported}
use Rattle.widl_idl.specs.declared.profile_rule.ProfileRule.{ProfileRule}
use Rattle.widl_idl.specs.declared.profile_rule.ProfileRule.TheVariants as unsupported
use Rattle.widl_idl.specs.declared.tree.members.AttributeKind.{AttributeKind}
use Rattle.widl_idl.specs.declared.tree.members.AttributeKind.TheVariants as attribute_kind
use Rattle.widl_idl.specs.declared.tree.operations.OperationKind.{OperationKind}
use Rattle.widl_idl.specs.declared.tree.operations.OperationKind.TheVariants as operation_kind
use Rattle.widl_idl.specs.declared.tree.types.Container.{Container}
use Rattle.widl_idl.specs.declared.tree.types.Container.TheVariants as container
use Rattle.widl_idl.specs.PlainTypes.{PlainAttribute, PlainLiteral, PlainValue, DecimalValue, InfinityValue, MinusInfinityValue, NotANumberValue, PlainForm, PlainType, PlainAnnotated, PlainFloat, PlainBigInt, PlainBuffer, PlainSymbol, PlainContainer, plain_type}
use Rattle.widl_idl.specs.PlainTrees.{PlainMemberKind, ConstantMember, AttributeMember, OperationMember, IterableMember, AsyncIterableMember, MaplikeMember, SetlikeMember, PlainDefinition}
use Rattle.widl_idl.specs.First.{Somewhere, violation_at}
use Rattle.widl_idl.specs.Nodes.{Node, TypeNode, AttributeNode, LiteralNode, NameNode, MemberNode, CallbackMemberNode, nodes_of}

-- the number of a rule in a refusal
abbrev pub profile_number : ProfileRule → ℕ
profile_number unsupported.FloatingPoint = 101
profile_number unsupported.BigInt = 102
profile_number unsupported.Buffer = 103
profile_number unsupported.Symbol = 104
profile_number unsupported.Asynchronous = 105
profile_number unsupported.ObservableArray = 106
profile_number unsupported.MapOrSet = 107
profile_number unsupported.ValueIterable = 108
profile_number unsupported.SpecialOperation = 109
profile_number unsupported.InheritedAttribute = 110
profile_number unsupported.CallbackInterfaceConstant = 111
profile_number unsupported.UnlistedAttribute = 112
profile_number unsupported.FrozenArray = 113

abbrev pub unsupported_at : ProfileRule → Place → Option Unsupported
unsupported_at rule place = Some (record { rule = rule; at = place })

abbrev pub container_rule : Container → Option ProfileRule
container_rule container.Sequence = None
container_rule container.AsyncSequence = Some unsupported.Asynchronous  -- X5
container_rule container.FrozenArray = Some unsupported.FrozenArray  -- X13
container_rule container.ObservableArray = Some unsupported.ObservableArray  -- X6

abbrev pub form_rule : PlainForm → Option ProfileRule
form_rule (PlainFloat kind) = Some unsupported.FloatingPoint  -- X1
form_rule PlainBigInt = Some unsupported.BigInt  -- X2
form_rule (PlainBuffer kind) = Some unsupported.Buffer  -- X3
form_rule PlainSymbol = Some unsupported.Symbol  -- X4
form_rule (PlainContainer container inner) = container_rule container
form_rule form = None

-- a type: at its first token
abbrev pub unsupported_type : PlainType → Option Unsupported
unsupported_type (plain_type place form question) = option_map (λ rule. record { rule = rule; at = place }) (form_rule form)

abbrev pub is_floating_point : PlainValue → Bool
is_floating_point (DecimalValue text) = true
is_floating_point InfinityValue = true
is_floating_point MinusInfinityValue = true
is_floating_point NotANumberValue = true
is_floating_point literal = false

abbrev pub unsupported_literal : PlainLiteral → Option Unsupported
unsupported_literal l = if is_floating_point l.value then unsupported_at unsupported.FloatingPoint l.at else None  -- X1

-- extended attributes that are read in every shape, and have no effect
abbrev pub attributes_without_effect : List (List ℕ)
attributes_without_effect =
    codes "Exposed" ∷ codes "SecureContext" ∷ codes "SameObject" ∷ codes "NewObject" ∷ codes "CEReactions"
    ∷ codes "CrossOriginIsolated" ∷ codes "Serializable" ∷ codes "Transferable" ∷ []

-- annotations of types, which have no argument
abbrev pub annotation_names : List (List ℕ)
annotation_names = codes "Clamp" ∷ codes "EnforceRange" ∷ codes "LegacyNullToEmptyString" ∷ []

abbrev pub is_among : List (List ℕ) → List ℕ → Bool
is_among [] text = false
is_among (other ∷ others) text = bytes_eq text other || is_among others text

abbrev pub is_empty : {X : Type 0} → List X → Bool
is_empty [] = true
is_empty (x ∷ xs) = false

abbrev pub is_listed : PlainAttribute → Bool
is_listed a = if is_among attributes_without_effect a.name.text then true else if is_among annotation_names a.name.text then is_empty a.arguments else false

abbrev pub unsupported_attribute : PlainAttribute → Option Unsupported
unsupported_attribute a = if is_listed a then None else unsupported_at unsupported.UnlistedAttribute a.name.at  -- X12

abbrev pub unsupported_operation : OperationKind → Option Unsupported
unsupported_operation (operation_kind.Special word place) = unsupported_at unsupported.SpecialOperation place  -- X9
unsupported_operation kind = None

abbrev pub unsupported_attribute_kind : AttributeKind → Option Unsupported
unsupported_attribute_kind (attribute_kind.Inherited place) = unsupported_at unsupported.InheritedAttribute place  -- X10
unsupported_attribute_kind kind = None

abbrev pub unsupported_iterable : Place → Option PlainAnnotated → Option Unsupported
unsupported_iterable place None = unsupported_at unsupported.ValueIterable place  -- X8
unsupported_iterable place (Some second) = None

-- a member of an interface, a mixin or a namespace: at its first word, a maplike or setlike one at that word
abbrev pub unsupported_member : PlainMemberKind → Option Unsupported
unsupported_member (OperationMember o) = unsupported_operation o.kind
unsupported_member (AttributeMember a) = unsupported_attribute_kind a.kind
unsupported_member (IterableMember i) = unsupported_iterable i.at i.second
unsupported_member (AsyncIterableMember i) = unsupported_at unsupported.Asynchronous i.at  -- X5
unsupported_member (MaplikeMember m) = unsupported_at unsupported.MapOrSet m.at  -- X7
unsupported_member (SetlikeMember s) = unsupported_at unsupported.MapOrSet s.at  -- X7
unsupported_member kind = None

-- a member of a callback interface
abbrev pub unsupported_callback_member : PlainMemberKind → Option Unsupported
unsupported_callback_member (ConstantMember c) = unsupported_at unsupported.CallbackInterfaceConstant c.at  -- X11
unsupported_callback_member kind = None

-- the unsupported form of a node, if it is of one
abbrev pub unsupported_of : Node → Option Unsupported
unsupported_of (TypeNode t) = unsupported_type t
unsupported_of (AttributeNode a) = unsupported_attribute a
unsupported_of (LiteralNode l) = unsupported_literal l
unsupported_of (NameNode name) = None
unsupported_of (MemberNode kind) = unsupported_member kind
unsupported_of (CallbackMemberNode kind) = unsupported_callback_member kind

abbrev pub IsUnsupportedBy : ProfileRule → Option Unsupported → Violation → Type 0
IsUnsupportedBy rule None s = ⊥
IsUnsupportedBy rule (Some form) s = (form.rule ≡ rule) × (violation_at form.at ≡ s)

-- the node is of a form that the rule refuses, at the place
abbrev pub IsUnsupported : ProfileRule → Node → Violation → Type 0
IsUnsupported rule node s = IsUnsupportedBy rule (unsupported_of node) s

-- one of the nodes is of a form that the rule refuses
abbrev pub LeavesOut : List Node → ProfileRule → Violation → Type 0
LeavesOut nodes rule s = Somewhere (IsUnsupported rule) nodes s

-- a form that the rule refuses is written at the place
abbrev pub BreaksProfile : List PlainDefinition → ProfileRule → Violation → Type 0
BreaksProfile definitions rule s = LeavesOut (nodes_of definitions) rule s

-- the rules of the profile
abbrev pub profile_rules : List ProfileRule
profile_rules =
    unsupported.FloatingPoint ∷ unsupported.BigInt ∷ unsupported.Buffer ∷ unsupported.Symbol ∷ unsupported.Asynchronous ∷ unsupported.ObservableArray ∷ unsupported.MapOrSet
    ∷ unsupported.ValueIterable ∷ unsupported.SpecialOperation ∷ unsupported.InheritedAttribute ∷ unsupported.CallbackInterfaceConstant ∷ unsupported.UnlistedAttribute ∷ unsupported.FrozenArray ∷ []
