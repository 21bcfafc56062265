-- A rule that speaks of members alone is broken among all that is written where a member breaks it.
use Rattle.std.proofs.Common.{◌≡◌, inl, inr, ◌++◌, Bool, true, false, List, [], ◌∷◌, flat_map, Option, None, Some, refl}
use Rattle.widl_idl.specs.declared.violation.Violation.{Violation}
use Rattle.widl_idl.specs.First.{Somewhere}
use Rattle.widl_idl.specs.Meanings.{declared_name}
use Rattle.widl_idl.specs.PlainTypes.{PlainName, PlainAttribute, PlainLiteral, PlainForm, PlainType, PlainAnnotated, PlainMembers, PlainContainer, PlainRecord, PlainPromise, PlainUnion, plain_type, plain_annotated, no_plain, more_plain}
use Rattle.widl_idl.specs.PlainTrees.{PlainArgument, PlainArgumentKind, RequiredArgument, OptionalArgument, VariadicArgument, PlainMember, PlainMemberKind, ConstantMember, AttributeMember, OperationMember, ConstructorMember, StringifierMember, IterableMember, AsyncIterableMember, MaplikeMember, SetlikeMember, PlainDictionaryMember, PlainDefinition, PlainKind, CallbackFunctionDefinition, CallbackInterfaceDefinition, InterfaceDefinition, MixinDefinition, NamespaceDefinition, DictionaryDefinition, EnumerationDefinition, TypedefDefinition, IncludesStatement}
use Rattle.widl_idl.specs.Nodes.{Node, TypeNode, AttributeNode, LiteralNode, NameNode, MemberNode, CallbackMemberNode, nodes_of_attributes, nodes_of_form, nodes_of_type, nodes_of_annotated, nodes_of_union, nodes_of_default, nodes_of_argument_kind, nodes_of_argument, nodes_of_arguments, nodes_of_optional_arguments, nodes_of_optional_name, nodes_of_optional_type, nodes_of_member_kind, nodes_of_member, nodes_of_callback_member, nodes_of_dictionary_member, nodes_inside, nodes_of_definition}
use Rattle.widl_idl.proofs.Somewhere.{nowhere, one_item, somewhere_cases, somewhere_left, somewhere_right}
use Rattle.widl_member_rules.specs.MemberTypes.{member_nodes, own_members}

abbrev pub is_member : Node → Bool
is_member (MemberNode kind) = true
is_member node = false

-- two predicates hold at the same violations
abbrev Same : (Violation → Type 0) → (Violation → Type 0) → Type 0
Same A B = ((s : Violation) → A s → B s) × ((s : Violation) → B s → A s)

module _ (P : Node → Violation → Type 0) (alone : (t : Node) → is_member t ≡ false → (s : Violation) → P t s → ⊥) where
  -- none of these nodes breaks the rule
  abbrev Spared : List Node → Type 0
  Spared nodes = (s : Violation) → Somewhere P nodes s → ⊥

  spared_both : (xs ys : List Node) → Spared xs → Spared ys → Spared (xs ++ ys)
  spared_both xs ys a b s h = elim (somewhere_cases P xs ys s h) [ inl l ↦ a s l | inr r ↦ b s r ]

  spared_more : (t : Node) (ts : List Node) → is_member t ≡ false → Spared ts → Spared (t ∷ ts)
  spared_more t ts e a = spared_both (t ∷ []) ts (λ s h. alone t e s (one_item P t s h)) a

  spared_attributes : (attributes : List PlainAttribute) → Spared (nodes_of_attributes attributes)
  spared_attributes [] = nowhere P
  spared_attributes (a ∷ more) = spared_more (AttributeNode a) (nodes_of_attributes more) refl (spared_attributes more)

  mutual
    spared_form : (f : PlainForm) → Spared (nodes_of_form f)
    spared_form (PlainContainer container inner) = spared_annotated inner
    spared_form (PlainRecord key inner) = spared_annotated inner
    spared_form (PlainPromise inner) = spared_type inner
    spared_form (PlainUnion members) = spared_union members
    spared_form f = nowhere P

    spared_type : (t : PlainType) → Spared (nodes_of_type t)
    spared_type (plain_type at form question) = spared_more (TypeNode (plain_type at form question)) (nodes_of_form form) refl (spared_form form)

    spared_annotated : (t : PlainAnnotated) → Spared (nodes_of_annotated t)
    spared_annotated (plain_annotated at attributes inner) = spared_both (nodes_of_attributes attributes) (nodes_of_type inner) (spared_attributes attributes) (spared_type inner)

    spared_union : (members : PlainMembers) → Spared (nodes_of_union members)
    spared_union no_plain = nowhere P
    spared_union (more_plain member more) = spared_both (nodes_of_annotated member) (nodes_of_union more) (spared_annotated member) (spared_union more)

  spared_default : (default : Option PlainLiteral) → Spared (nodes_of_default default)
  spared_default None = nowhere P
  spared_default (Some literal) = spared_more (LiteralNode literal) [] refl (nowhere P)

  spared_argument_kind : (kind : PlainArgumentKind) → Spared (nodes_of_argument_kind kind)
  spared_argument_kind RequiredArgument = nowhere P
  spared_argument_kind (OptionalArgument default) = spared_default default
  spared_argument_kind (VariadicArgument ellipsis) = nowhere P

  spared_arguments : (arguments : List PlainArgument) → Spared (nodes_of_arguments arguments)
  spared_arguments [] = nowhere P
  spared_arguments (a ∷ more) =
      spared_both (nodes_of_argument a) (nodes_of_arguments more)
      (spared_both (nodes_of_attributes a.attributes) (nodes_of_annotated a.ty ++ nodes_of_argument_kind a.kind) (spared_attributes a.attributes)
      (spared_both (nodes_of_annotated a.ty) (nodes_of_argument_kind a.kind) (spared_annotated a.ty) (spared_argument_kind a.kind)))
      (spared_arguments more)

  spared_optional_arguments : (arguments : Option (List PlainArgument)) → Spared (nodes_of_optional_arguments arguments)
  spared_optional_arguments None = nowhere P
  spared_optional_arguments (Some arguments) = spared_arguments arguments

  spared_optional_name : (name : Option PlainName) → Spared (nodes_of_optional_name name)
  spared_optional_name None = nowhere P
  spared_optional_name (Some name) = spared_more (NameNode name) [] refl (nowhere P)

  spared_optional_type : (ty : Option PlainAnnotated) → Spared (nodes_of_optional_type ty)
  spared_optional_type None = nowhere P
  spared_optional_type (Some ty) = spared_annotated ty

  spared_member_kind : (kind : PlainMemberKind) → Spared (nodes_of_member_kind kind)
  spared_member_kind (ConstantMember c) = spared_more (NameNode c.name) (LiteralNode c.value ∷ nodes_of_type c.ty) refl (spared_more (LiteralNode c.value) (nodes_of_type c.ty) refl (spared_type c.ty))
  spared_member_kind (AttributeMember a) = spared_more (NameNode a.name) (nodes_of_annotated a.ty) refl (spared_annotated a.ty)
  spared_member_kind (OperationMember o) = spared_both (nodes_of_optional_name o.name) (nodes_of_type o.returned ++ nodes_of_arguments o.arguments) (spared_optional_name o.name) (spared_both (nodes_of_type o.returned) (nodes_of_arguments o.arguments) (spared_type o.returned) (spared_arguments o.arguments))
  spared_member_kind (ConstructorMember c) = spared_arguments c.arguments
  spared_member_kind (StringifierMember s) = nowhere P
  spared_member_kind (IterableMember i) = spared_both (nodes_of_annotated i.first) (nodes_of_optional_type i.second) (spared_annotated i.first) (spared_optional_type i.second)
  spared_member_kind (AsyncIterableMember i) = spared_both (nodes_of_annotated i.first) (nodes_of_optional_type i.second ++ nodes_of_optional_arguments i.arguments) (spared_annotated i.first) (spared_both (nodes_of_optional_type i.second) (nodes_of_optional_arguments i.arguments) (spared_optional_type i.second) (spared_optional_arguments i.arguments))
  spared_member_kind (MaplikeMember m) = spared_both (nodes_of_annotated m.key) (nodes_of_annotated m.value) (spared_annotated m.key) (spared_annotated m.value)
  spared_member_kind (SetlikeMember s) = spared_annotated s.value

  -- what stands in a member
  abbrev parts_of : PlainMember → List Node
  parts_of m = nodes_of_attributes m.attributes ++ nodes_of_member_kind m.kind

  spared_parts : (m : PlainMember) → Spared (parts_of m)
  spared_parts m = spared_both (nodes_of_attributes m.attributes) (nodes_of_member_kind m.kind) (spared_attributes m.attributes) (spared_member_kind m.kind)

  spared_callback_members : (members : List PlainMember) → Spared (flat_map nodes_of_callback_member members)
  spared_callback_members [] = nowhere P
  spared_callback_members (m ∷ more) = spared_both (nodes_of_callback_member m) (flat_map nodes_of_callback_member more) (spared_more (CallbackMemberNode m.kind) (parts_of m) refl (spared_parts m)) (spared_callback_members more)

  spared_dictionary_members : (members : List PlainDictionaryMember) → Spared (flat_map nodes_of_dictionary_member members)
  spared_dictionary_members [] = nowhere P
  spared_dictionary_members (m ∷ more) =
      let rest : Spared (nodes_of_annotated m.ty ++ nodes_of_default m.default) = spared_both (nodes_of_annotated m.ty) (nodes_of_default m.default) (spared_annotated m.ty) (spared_default m.default) in
      let after : Spared (nodes_of_attributes m.attributes ++ (nodes_of_annotated m.ty ++ nodes_of_default m.default)) = spared_both (nodes_of_attributes m.attributes) (nodes_of_annotated m.ty ++ nodes_of_default m.default) (spared_attributes m.attributes) rest in
      spared_both (nodes_of_dictionary_member m) (flat_map nodes_of_dictionary_member more)
      (spared_more (NameNode m.name) (nodes_of_attributes m.attributes ++ (nodes_of_annotated m.ty ++ nodes_of_default m.default)) refl after)
      (spared_dictionary_members more)

  among_nodes : (members : List PlainMember) (s : Violation) → Somewhere P (member_nodes members) s → Somewhere P (flat_map nodes_of_member members) s
  among_nodes [] s h = absurd (nowhere P s h)
  among_nodes (m ∷ more) s h = elim (somewhere_cases P (MemberNode m.kind ∷ []) (member_nodes more) s h) [
    | inl l ↦ somewhere_left P (nodes_of_member m) (flat_map nodes_of_member more) s (somewhere_left P (MemberNode m.kind ∷ []) (parts_of m) s l)
    | inr r ↦ somewhere_right P (nodes_of_member m) (flat_map nodes_of_member more) s (among_nodes more s r)
  ]

  among_members : (members : List PlainMember) (s : Violation) → Somewhere P (flat_map nodes_of_member members) s → Somewhere P (member_nodes members) s
  among_members [] s h = absurd (nowhere P s h)
  among_members (m ∷ more) s h = elim (somewhere_cases P (nodes_of_member m) (flat_map nodes_of_member more) s h) [
    | inl l ↦ elim (somewhere_cases P (MemberNode m.kind ∷ []) (parts_of m) s l) [ inl own ↦ somewhere_left P (MemberNode m.kind ∷ []) (member_nodes more) s own | inr part ↦ absurd (spared_parts m s part) ]
    | inr r ↦ somewhere_right P (MemberNode m.kind ∷ []) (member_nodes more) s (among_members more s r)
  ]

  nothing_same : (nodes : List Node) → Spared nodes → Same (Somewhere P []) (Somewhere P nodes)
  nothing_same nodes spared = (λ s h. absurd (nowhere P s h), λ s h. absurd (spared s h))

  inside_same : (kind : PlainKind) → Same (Somewhere P (member_nodes (own_members kind))) (Somewhere P (nodes_inside kind))
  inside_same (CallbackFunctionDefinition c) = nothing_same (nodes_of_type c.returned ++ nodes_of_arguments c.arguments) (spared_both (nodes_of_type c.returned) (nodes_of_arguments c.arguments) (spared_type c.returned) (spared_arguments c.arguments))
  inside_same (CallbackInterfaceDefinition c) = nothing_same (flat_map nodes_of_callback_member c.members) (spared_callback_members c.members)
  inside_same (InterfaceDefinition i) = (among_nodes i.members, among_members i.members)
  inside_same (MixinDefinition m) = (among_nodes m.members, among_members m.members)
  inside_same (NamespaceDefinition n) = (among_nodes n.members, among_members n.members)
  inside_same (DictionaryDefinition d) = nothing_same (flat_map nodes_of_dictionary_member d.members) (spared_dictionary_members d.members)
  inside_same (EnumerationDefinition e) = (λ s h. h, λ s h. h)
  inside_same (TypedefDefinition d) = nothing_same (nodes_of_annotated d.ty) (spared_annotated d.ty)
  inside_same (IncludesStatement i) = (λ s h. h, λ s h. h)

  -- what breaks among the members of a definition breaks among all that is written in it
  pub definition_same : (d : PlainDefinition) → Same (Somewhere P (member_nodes (own_members d.kind))) (Somewhere P (nodes_of_definition d))
  definition_same d =
      let name = nodes_of_optional_name (declared_name d.kind) in
      let inside = inside_same d.kind in (
        λ s h. somewhere_right P (nodes_of_attributes d.attributes) (name ++ nodes_inside d.kind) s (somewhere_right P name (nodes_inside d.kind) s (inside.0 s h)),
        λ s h. elim (somewhere_cases P (nodes_of_attributes d.attributes) (name ++ nodes_inside d.kind) s h) [
          | inl l ↦ absurd (spared_attributes d.attributes s l)
          | inr r ↦ elim (somewhere_cases P name (nodes_inside d.kind) s r) [ inl n ↦ absurd (spared_optional_name (declared_name d.kind) s n) | inr parts ↦ inside.1 s parts ]
        ],
      )
