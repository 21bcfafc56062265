-- The rules of validity on enumerations, annotations, operations and callback interfaces, each as one predicate.
-- Source: Web IDL, "Enumerations", "Annotated types", "Operations" and "Callback interfaces".
use Rattle.std.specs.Prelude.{◌≡◌, ◌≢◌, ◌⊎◌, Bool, true, false, ◌||◌, List, [], ◌∷◌, length, flat_map, bytes_eq, is_some}
use Rattle.std.specs.List.{list_any}
use Rattle.widl_idl.specs.declared.violation.Violation.{Violation}
use Rattle.widl_idl.specs.First.{AtOne, Somewhere}
use Rattle.widl_idl.specs.MergedMembers.{operations_in}
use Rattle.widl_idl.specs.MergingRules.{IsAt}
use Rattle.widl_idl.specs.PlainTypes.{PlainAttribute}
use Rattle.widl_idl.specs.PlainTrees.{PlainArgument, PlainArgumentKind, VariadicArgument, PlainMember, PlainMemberKind, AttributeMember, OperationMember, PlainEnumerationValue, PlainDefinition, PlainKind, CallbackInterfaceDefinition, InterfaceDefinition, MixinDefinition, NamespaceDefinition, EnumerationDefinition}
use Rattle.widl_idl.specs.WrittenTypes.{annotation_of}

-- an earlier value of the enumeration is the same text: at the text
abbrev pub RepeatsValue : List PlainEnumerationValue → PlainEnumerationValue → Violation → Type 0
RepeatsValue before v s = (list_any (λ (w : PlainEnumerationValue). bytes_eq w.text v.text) before ≡ true) × IsAt v.at s

-- rule 12: an enumeration has a value twice
abbrev pub HasValueTwice : PlainKind → Violation → Type 0
HasValueTwice (EnumerationDefinition e) s = AtOne RepeatsValue e.values s
HasValueTwice kind s = ⊥

-- the members that stand in one definition
abbrev pub members_written : PlainKind → List PlainMember
members_written (CallbackInterfaceDefinition c) = c.members
members_written (InterfaceDefinition i) = i.members
members_written (MixinDefinition m) = m.members
members_written (NamespaceDefinition n) = n.members
members_written kind = []

-- the extended attributes before a member that belong to no type: those of an attribute belong to its type
abbrev pub attributes_of_no_type : List PlainAttribute → PlainMemberKind → List PlainAttribute
attributes_of_no_type attributes (AttributeMember a) = []
attributes_of_no_type attributes kind = attributes

-- the lists of extended attributes of a definition and its members that belong to no type
abbrev pub attribute_lists_of : PlainDefinition → List (List PlainAttribute)
attribute_lists_of d = d.attributes ∷ flat_map (λ (m : PlainMember). attributes_of_no_type m.attributes m.kind ∷ []) (members_written d.kind)

-- an annotation of types: at its name
abbrev pub IsAnnotation : PlainAttribute → Violation → Type 0
IsAnnotation a s = (is_some (annotation_of a.name.text) ≡ true) × IsAt a.name.at s

-- rule 30: an annotation of types stands before what is no type
abbrev pub AnnotatesNoType : PlainDefinition → Violation → Type 0
AnnotatesNoType d s = Somewhere (Somewhere IsAnnotation) (attribute_lists_of d) s

-- rule 33: a callback interface that hasn't exactly one operation: at its name
abbrev pub HasOtherThanOne : PlainKind → Violation → Type 0
HasOtherThanOne (CallbackInterfaceDefinition c) s = (length (operations_in c.members) ≢ 1) × IsAt c.name.at s
HasOtherThanOne kind s = ⊥

-- an operation without a name: at its `(`
abbrev pub IsNameless : PlainMemberKind → Violation → Type 0
IsNameless (OperationMember o) s = (is_some o.name ≡ false) × IsAt o.open_place s
IsNameless kind s = ⊥

-- rule 39: an operation has no name: at its `(`
abbrev pub HasNameless : PlainKind → Violation → Type 0
HasNameless kind s = Somewhere (λ (m : PlainMember). IsNameless m.kind) (members_written kind) s

abbrev pub is_variadic : PlainArgumentKind → Bool
is_variadic (VariadicArgument ellipsis) = true
is_variadic kind = false

-- whether an argument other than the last has an ellipsis
abbrev pub has_early_ellipsis : List PlainArgument → Bool
has_early_ellipsis [] = false
has_early_ellipsis (a ∷ []) = false
has_early_ellipsis (a ∷ b ∷ more) = is_variadic a.kind || has_early_ellipsis (b ∷ more)

-- an operation of a callback interface without a name, or with an ellipsis in a place other than the last: at its `(`
abbrev pub IsMisformed : PlainMemberKind → Violation → Type 0
IsMisformed (OperationMember o) s = ((is_some o.name ≡ false) ⊎ (has_early_ellipsis o.arguments ≡ true)) × IsAt o.open_place s
IsMisformed kind s = ⊥

-- rule 46: an operation of a callback interface has no name, or an ellipsis before its last argument: at its `(`
abbrev pub HasMisformed : PlainKind → Violation → Type 0
HasMisformed (CallbackInterfaceDefinition c) s = Somewhere (λ (m : PlainMember). IsMisformed m.kind) c.members s
HasMisformed kind s = ⊥
