-- The types inside a type are written wherever it is, and so are the names in it.
use Rattle.std.proofs.Common.{◌≡◌, inl, inr, ℕ, ◌<◌, ◌++◌, zero, suc, List, [], ◌∷◌, length, get_or, Option, None, Some, arith, sym, ap, subst}
use Rattle.std.specs.List.{Contains, flat_map}
use Rattle.std.proofs.lemmas.List.Elements.{Contains-append_left, Contains-append_right, Contains-append_cases}
use Rattle.widl_text.specs.declared.place.Place.{Place}
use Rattle.widl_idl.specs.Meanings.{declared_name}
use Rattle.widl_idl.specs.Nesting.{annotated_names, form_names, type_names, union_names}
use Rattle.widl_idl.specs.Nodes.{Node, AttributeNode, CallbackMemberNode, LiteralNode, MemberNode, NameNode, TypeNode, nodes_inside, nodes_of, nodes_of_annotated, nodes_of_argument, nodes_of_argument_kind, nodes_of_arguments, nodes_of_attributes, nodes_of_callback_member, nodes_of_default, nodes_of_definition, nodes_of_dictionary_member, nodes_of_form, nodes_of_member, nodes_of_member_kind, nodes_of_optional_arguments, nodes_of_optional_name, nodes_of_optional_type, nodes_of_type, nodes_of_union}
use Rattle.widl_idl.specs.PlainTrees.{PlainArgument, PlainArgumentKind, RequiredArgument, OptionalArgument, VariadicArgument, PlainMember, PlainMemberKind, ConstantMember, AttributeMember, OperationMember, ConstructorMember, StringifierMember, IterableMember, AsyncIterableMember, MaplikeMember, SetlikeMember, PlainDictionaryMember, PlainDefinition, PlainKind, CallbackFunctionDefinition, CallbackInterfaceDefinition, InterfaceDefinition, MixinDefinition, NamespaceDefinition, DictionaryDefinition, EnumerationDefinition, TypedefDefinition, IncludesStatement}
use Rattle.widl_idl.specs.PlainTypes.{PlainName, PlainAttribute, PlainLiteral, PlainForm, PlainType, PlainAnnotated, PlainMembers, PlainNamed, PlainContainer, PlainRecord, PlainPromise, PlainUnion, plain_type, plain_annotated, no_plain, more_plain}

-- with each type the list has what is inside it
abbrev HasParts : List Node → Type 0
HasParts nodes = (t : PlainType) (n : Node) → Contains nodes (TypeNode t) → Contains (nodes_of_type t) n → Contains nodes n

no_parts : HasParts []
no_parts t n listed part = absurd (let l = listed.1 in omega (arith, l))

both_parts : (xs ys : List Node) → HasParts xs → HasParts ys → HasParts (xs ++ ys)
both_parts xs ys first more t n listed part = elim (Contains-append_cases xs ys (TypeNode t) listed) [ inl l ↦ Contains-append_left xs ys n (first t n l part) | inr r ↦ Contains-append_right xs ys n (more t n r part) ]

only_item : {X : Type 0} (x y : X) → Contains (x ∷ []) y → x ≡ y
only_item x y c = by_place c.0 c.1 c.2
  where
    by_place : (k : ℕ) → k < length (x ∷ []) → get_or (x ∷ []) k y ≡ y → x ≡ y
    by_place zero below e = e
    by_place (suc k) below e = absurd (omega (arith, below))

-- a node that is no type stands before the list
other_parts : (x : Node) (xs : List Node) → ((t : PlainType) → x ≡ TypeNode t → ⊥) → HasParts xs → HasParts (x ∷ xs)
other_parts x xs other more = both_parts (x ∷ []) xs (λ t n listed part. absurd (other t (only_item x (TypeNode t) listed))) more

each_parts : {X : Type 0} (f : X → List Node) (xs : List X) → ((x : X) → HasParts (f x)) → HasParts (flat_map f xs)
each_parts f [] has = no_parts
each_parts f (x ∷ xs) has = both_parts (f x) (flat_map f xs) (has x) (each_parts f xs has)

attribute_parts : (attributes : List PlainAttribute) → HasParts (nodes_of_attributes attributes)
attribute_parts [] = no_parts
attribute_parts (a ∷ attributes) = other_parts (AttributeNode a) (nodes_of_attributes attributes) (λ t e. absurd (cc)) (attribute_parts attributes)

type_is : {t u : PlainType} → TypeNode t ≡ TypeNode u → t ≡ u
type_is e = (cc)

mutual
  form_parts : (form : PlainForm) → HasParts (nodes_of_form form)
  form_parts (PlainContainer kind inner) = annotated_parts inner
  form_parts (PlainRecord key inner) = annotated_parts inner
  form_parts (PlainPromise inner) = type_parts inner
  form_parts (PlainUnion members) = union_parts members
  form_parts form = no_parts

  type_parts : (t : PlainType) → HasParts (nodes_of_type t)
  type_parts (plain_type at form question) t n listed part =
      let here = TypeNode (plain_type at form question) ∷ [] in
      elim (Contains-append_cases here (nodes_of_form form) (TypeNode t) listed) [
        | inl l ↦ subst (λ u. Contains (nodes_of_type u) n) (sym (type_is (only_item (TypeNode (plain_type at form question)) (TypeNode t) l))) part
        | inr r ↦ Contains-append_right here (nodes_of_form form) n (form_parts form t n r part)
      ]

  annotated_parts : (t : PlainAnnotated) → HasParts (nodes_of_annotated t)
  annotated_parts (plain_annotated at attributes inner) = both_parts (nodes_of_attributes attributes) (nodes_of_type inner) (attribute_parts attributes) (type_parts inner)

  union_parts : (members : PlainMembers) → HasParts (nodes_of_union members)
  union_parts no_plain = no_parts
  union_parts (more_plain member more) = both_parts (nodes_of_annotated member) (nodes_of_union more) (annotated_parts member) (union_parts more)

default_parts : (default : Option PlainLiteral) → HasParts (nodes_of_default default)
default_parts None = no_parts
default_parts (Some literal) = other_parts (LiteralNode literal) [] (λ t e. absurd (cc)) no_parts

argument_kind_parts : (kind : PlainArgumentKind) → HasParts (nodes_of_argument_kind kind)
argument_kind_parts RequiredArgument = no_parts
argument_kind_parts (OptionalArgument default) = default_parts default
argument_kind_parts (VariadicArgument ellipsis) = no_parts

argument_parts : (a : PlainArgument) → HasParts (nodes_of_argument a)
argument_parts a = both_parts (nodes_of_attributes a.attributes) (nodes_of_annotated a.ty ++ nodes_of_argument_kind a.kind) (attribute_parts a.attributes) (both_parts (nodes_of_annotated a.ty) (nodes_of_argument_kind a.kind) (annotated_parts a.ty) (argument_kind_parts a.kind))

arguments_parts : (arguments : List PlainArgument) → HasParts (nodes_of_arguments arguments)
arguments_parts arguments = each_parts nodes_of_argument arguments argument_parts

optional_arguments_parts : (arguments : Option (List PlainArgument)) → HasParts (nodes_of_optional_arguments arguments)
optional_arguments_parts None = no_parts
optional_arguments_parts (Some arguments) = arguments_parts arguments

optional_name_parts : (name : Option PlainName) → HasParts (nodes_of_optional_name name)
optional_name_parts None = no_parts
optional_name_parts (Some name) = other_parts (NameNode name) [] (λ t e. absurd (cc)) no_parts

optional_type_parts : (t : Option PlainAnnotated) → HasParts (nodes_of_optional_type t)
optional_type_parts None = no_parts
optional_type_parts (Some t) = annotated_parts t

member_kind_parts : (kind : PlainMemberKind) → HasParts (nodes_of_member_kind kind)
member_kind_parts (ConstantMember c) = other_parts (NameNode c.name) (LiteralNode c.value ∷ nodes_of_type c.ty) (λ t e. absurd (cc)) (other_parts (LiteralNode c.value) (nodes_of_type c.ty) (λ t e. absurd (cc)) (type_parts c.ty))
member_kind_parts (AttributeMember a) = other_parts (NameNode a.name) (nodes_of_annotated a.ty) (λ t e. absurd (cc)) (annotated_parts a.ty)
member_kind_parts (OperationMember o) = both_parts (nodes_of_optional_name o.name) (nodes_of_type o.returned ++ nodes_of_arguments o.arguments) (optional_name_parts o.name) (both_parts (nodes_of_type o.returned) (nodes_of_arguments o.arguments) (type_parts o.returned) (arguments_parts o.arguments))
member_kind_parts (ConstructorMember c) = arguments_parts c.arguments
member_kind_parts (StringifierMember s) = no_parts
member_kind_parts (IterableMember i) = both_parts (nodes_of_annotated i.first) (nodes_of_optional_type i.second) (annotated_parts i.first) (optional_type_parts i.second)
member_kind_parts (AsyncIterableMember i) =
    both_parts (nodes_of_annotated i.first) (nodes_of_optional_type i.second ++ nodes_of_optional_arguments i.arguments) (annotated_parts i.first)
    (both_parts (nodes_of_optional_type i.second) (nodes_of_optional_arguments i.arguments) (optional_type_parts i.second) (optional_arguments_parts i.arguments))
member_kind_parts (MaplikeMember m) = both_parts (nodes_of_annotated m.key) (nodes_of_annotated m.value) (annotated_parts m.key) (annotated_parts m.value)
member_kind_parts (SetlikeMember s) = annotated_parts s.value

attributed_parts : (attributes : List PlainAttribute) (kind : PlainMemberKind) → HasParts (nodes_of_attributes attributes ++ nodes_of_member_kind kind)
attributed_parts attributes kind = both_parts (nodes_of_attributes attributes) (nodes_of_member_kind kind) (attribute_parts attributes) (member_kind_parts kind)

member_parts : (m : PlainMember) → HasParts (nodes_of_member m)
member_parts m = other_parts (MemberNode m.kind) (nodes_of_attributes m.attributes ++ nodes_of_member_kind m.kind) (λ t e. absurd (cc)) (attributed_parts m.attributes m.kind)

callback_member_parts : (m : PlainMember) → HasParts (nodes_of_callback_member m)
callback_member_parts m = other_parts (CallbackMemberNode m.kind) (nodes_of_attributes m.attributes ++ nodes_of_member_kind m.kind) (λ t e. absurd (cc)) (attributed_parts m.attributes m.kind)

dictionary_member_parts : (m : PlainDictionaryMember) → HasParts (nodes_of_dictionary_member m)
dictionary_member_parts m =
    let typed = nodes_of_annotated m.ty ++ nodes_of_default m.default in
    other_parts (NameNode m.name) (nodes_of_attributes m.attributes ++ typed) (λ t e. absurd (cc))
    (both_parts (nodes_of_attributes m.attributes) typed (attribute_parts m.attributes) (both_parts (nodes_of_annotated m.ty) (nodes_of_default m.default) (annotated_parts m.ty) (default_parts m.default)))

inside_parts : (kind : PlainKind) → HasParts (nodes_inside kind)
inside_parts (CallbackFunctionDefinition c) = both_parts (nodes_of_type c.returned) (nodes_of_arguments c.arguments) (type_parts c.returned) (arguments_parts c.arguments)
inside_parts (CallbackInterfaceDefinition c) = each_parts nodes_of_callback_member c.members callback_member_parts
inside_parts (InterfaceDefinition i) = each_parts nodes_of_member i.members member_parts
inside_parts (MixinDefinition m) = each_parts nodes_of_member m.members member_parts
inside_parts (NamespaceDefinition n) = each_parts nodes_of_member n.members member_parts
inside_parts (DictionaryDefinition d) = each_parts nodes_of_dictionary_member d.members dictionary_member_parts
inside_parts (EnumerationDefinition e) = no_parts
inside_parts (TypedefDefinition d) = annotated_parts d.ty
inside_parts (IncludesStatement i) = no_parts

definition_parts : (d : PlainDefinition) → HasParts (nodes_of_definition d)
definition_parts d =
    let named = nodes_of_optional_name (declared_name d.kind) ++ nodes_inside d.kind in
    both_parts (nodes_of_attributes d.attributes) named (attribute_parts d.attributes) (both_parts (nodes_of_optional_name (declared_name d.kind)) (nodes_inside d.kind) (optional_name_parts (declared_name d.kind)) (inside_parts d.kind))

pub written_parts : (definitions : List PlainDefinition) → HasParts (nodes_of definitions)
written_parts definitions = each_parts nodes_of_definition definitions definition_parts

-- a name stands in the list as a type
abbrev pub IsNamedIn : List Node → PlainName → Type 0
IsNamedIn nodes name = (place : Place) × (question : Option Place) × Contains nodes (TypeNode (plain_type place (PlainNamed name) question))

named_left : (xs ys : List Node) (name : PlainName) → IsNamedIn xs name → IsNamedIn (xs ++ ys) name
named_left xs ys name h = (h.0, h.1, Contains-append_left xs ys (TypeNode (plain_type h.0 (PlainNamed name) h.1)) h.2)

named_right : (xs ys : List Node) (name : PlainName) → IsNamedIn ys name → IsNamedIn (xs ++ ys) name
named_right xs ys name h = (h.0, h.1, Contains-append_right xs ys (TypeNode (plain_type h.0 (PlainNamed name) h.1)) h.2)

mutual
  form_named : (at : Place) (form : PlainForm) (question : Option Place) (name : PlainName) → Contains (form_names form) name → IsNamedIn (TypeNode (plain_type at form question) ∷ nodes_of_form form) name
  form_named at (PlainNamed other) question name c = (at, question, (0, omega arith, ap (λ n. TypeNode (plain_type at (PlainNamed n) question)) (only_item other name c)))
  form_named at (PlainContainer kind inner) question name c = named_right (TypeNode (plain_type at (PlainContainer kind inner) question) ∷ []) (nodes_of_annotated inner) name (annotated_named inner name c)
  form_named at (PlainRecord key inner) question name c = named_right (TypeNode (plain_type at (PlainRecord key inner) question) ∷ []) (nodes_of_annotated inner) name (annotated_named inner name c)
  form_named at (PlainPromise inner) question name c = named_right (TypeNode (plain_type at (PlainPromise inner) question) ∷ []) (nodes_of_type inner) name (type_named inner name c)
  form_named at (PlainUnion members) question name c = named_right (TypeNode (plain_type at (PlainUnion members) question) ∷ []) (nodes_of_union members) name (union_named members name c)
  form_named at form question name c = absurd (let l = c.1 in omega (arith, l))

  pub type_named : (t : PlainType) (name : PlainName) → Contains (type_names t) name → IsNamedIn (nodes_of_type t) name
  type_named (plain_type at form question) name c = form_named at form question name c

  pub annotated_named : (t : PlainAnnotated) (name : PlainName) → Contains (annotated_names t) name → IsNamedIn (nodes_of_annotated t) name
  annotated_named (plain_annotated at attributes inner) name c = named_right (nodes_of_attributes attributes) (nodes_of_type inner) name (type_named inner name c)

  union_named : (members : PlainMembers) (name : PlainName) → Contains (union_names members) name → IsNamedIn (nodes_of_union members) name
  union_named no_plain name c = absurd (let l = c.1 in omega (arith, l))
  union_named (more_plain member more) name c = elim (Contains-append_cases (annotated_names member) (union_names more) name c) [ inl l ↦ named_left (nodes_of_annotated member) (nodes_of_union more) name (annotated_named member name l) | inr r ↦ named_right (nodes_of_annotated member) (nodes_of_union more) name (union_named more name r) ]
