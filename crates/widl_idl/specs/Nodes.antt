-- What is written in a set of files, as one list for each kind of node that a rule reads by itself.
use Rattle.std.specs.Prelude.{List, [], ◌∷◌, ◌++◌, Option, None, Some, map, flat_map}
use Rattle.widl_idl.specs.PlainTypes.{PlainName, PlainAttribute, PlainLiteral, PlainForm, PlainType, PlainAnnotated, PlainMembers, PlainContainer, PlainRecord, PlainPromise, PlainUnion, plain_type, plain_annotated, no_plain, more_plain}
use Rattle.widl_idl.specs.PlainTrees.{PlainArgument, PlainArgumentKind, RequiredArgument, OptionalArgument, VariadicArgument, PlainMember, PlainMemberKind, ConstantMember, AttributeMember, OperationMember, ConstructorMember, StringifierMember, IterableMember, AsyncIterableMember, MaplikeMember, SetlikeMember, PlainDictionaryMember, PlainDefinition, PlainKind, CallbackFunctionDefinition, CallbackInterfaceDefinition, InterfaceDefinition, MixinDefinition, NamespaceDefinition, DictionaryDefinition, EnumerationDefinition, TypedefDefinition, IncludesStatement}
use Rattle.widl_idl.specs.Meanings.{declared_name}

-- a node that is written: a type, also one inside another; an extended attribute; the value of a constant or a default value; the name of a definition or a member; a member of an interface, a mixin or a namespace; a member of a callback interface
pub data Node : Type 0 where
  TypeNode : PlainType → Node
  AttributeNode : PlainAttribute → Node
  LiteralNode : PlainLiteral → Node
  NameNode : PlainName → Node
  MemberNode : PlainMemberKind → Node
  CallbackMemberNode : PlainMemberKind → Node

abbrev pub nodes_of_attributes : List PlainAttribute → List Node
nodes_of_attributes attributes = map AttributeNode attributes

abbrev mutual
  -- the types inside a type, and their extended attributes
  pub nodes_of_form : PlainForm → List Node
  nodes_of_form (PlainContainer container inner) = nodes_of_annotated inner
  nodes_of_form (PlainRecord key inner) = nodes_of_annotated inner
  nodes_of_form (PlainPromise inner) = nodes_of_type inner
  nodes_of_form (PlainUnion members) = nodes_of_union members
  nodes_of_form form = []

  pub nodes_of_type : PlainType → List Node
  nodes_of_type (plain_type at form question) = TypeNode (plain_type at form question) ∷ nodes_of_form form

  pub nodes_of_annotated : PlainAnnotated → List Node
  nodes_of_annotated (plain_annotated at attributes inner) = nodes_of_attributes attributes ++ nodes_of_type inner

  pub nodes_of_union : PlainMembers → List Node
  nodes_of_union no_plain = []
  nodes_of_union (more_plain member more) = nodes_of_annotated member ++ nodes_of_union more

abbrev pub nodes_of_default : Option PlainLiteral → List Node
nodes_of_default None = []
nodes_of_default (Some literal) = LiteralNode literal ∷ []

abbrev pub nodes_of_argument_kind : PlainArgumentKind → List Node
nodes_of_argument_kind RequiredArgument = []
nodes_of_argument_kind (OptionalArgument default) = nodes_of_default default
nodes_of_argument_kind (VariadicArgument ellipsis) = []

abbrev pub nodes_of_argument : PlainArgument → List Node
nodes_of_argument a = nodes_of_attributes a.attributes ++ (nodes_of_annotated a.ty ++ nodes_of_argument_kind a.kind)

abbrev pub nodes_of_arguments : List PlainArgument → List Node
nodes_of_arguments arguments = flat_map nodes_of_argument arguments

abbrev pub nodes_of_optional_arguments : Option (List PlainArgument) → List Node
nodes_of_optional_arguments None = []
nodes_of_optional_arguments (Some arguments) = nodes_of_arguments arguments

abbrev pub nodes_of_optional_name : Option PlainName → List Node
nodes_of_optional_name None = []
nodes_of_optional_name (Some name) = NameNode name ∷ []

abbrev pub nodes_of_optional_type : Option PlainAnnotated → List Node
nodes_of_optional_type None = []
nodes_of_optional_type (Some ty) = nodes_of_annotated ty

-- the parts of a member
abbrev pub nodes_of_member_kind : PlainMemberKind → List Node
nodes_of_member_kind (ConstantMember c) = NameNode c.name ∷ LiteralNode c.value ∷ nodes_of_type c.ty
nodes_of_member_kind (AttributeMember a) = NameNode a.name ∷ nodes_of_annotated a.ty
nodes_of_member_kind (OperationMember o) = nodes_of_optional_name o.name ++ (nodes_of_type o.returned ++ nodes_of_arguments o.arguments)
nodes_of_member_kind (ConstructorMember c) = nodes_of_arguments c.arguments
nodes_of_member_kind (StringifierMember s) = []
nodes_of_member_kind (IterableMember i) = nodes_of_annotated i.first ++ nodes_of_optional_type i.second
nodes_of_member_kind (AsyncIterableMember i) = nodes_of_annotated i.first ++ (nodes_of_optional_type i.second ++ nodes_of_optional_arguments i.arguments)
nodes_of_member_kind (MaplikeMember m) = nodes_of_annotated m.key ++ nodes_of_annotated m.value
nodes_of_member_kind (SetlikeMember s) = nodes_of_annotated s.value

-- a member, its extended attributes and its parts
abbrev pub nodes_of_member : PlainMember → List Node
nodes_of_member m = MemberNode m.kind ∷ (nodes_of_attributes m.attributes ++ nodes_of_member_kind m.kind)

abbrev pub nodes_of_callback_member : PlainMember → List Node
nodes_of_callback_member m = CallbackMemberNode m.kind ∷ (nodes_of_attributes m.attributes ++ nodes_of_member_kind m.kind)

abbrev pub nodes_of_dictionary_member : PlainDictionaryMember → List Node
nodes_of_dictionary_member m = NameNode m.name ∷ (nodes_of_attributes m.attributes ++ (nodes_of_annotated m.ty ++ nodes_of_default m.default))

-- what stands in a definition after its name
abbrev pub nodes_inside : PlainKind → List Node
nodes_inside (CallbackFunctionDefinition c) = nodes_of_type c.returned ++ nodes_of_arguments c.arguments
nodes_inside (CallbackInterfaceDefinition c) = flat_map nodes_of_callback_member c.members
nodes_inside (InterfaceDefinition i) = flat_map nodes_of_member i.members
nodes_inside (MixinDefinition m) = flat_map nodes_of_member m.members
nodes_inside (NamespaceDefinition n) = flat_map nodes_of_member n.members
nodes_inside (DictionaryDefinition d) = flat_map nodes_of_dictionary_member d.members
nodes_inside (EnumerationDefinition e) = []
nodes_inside (TypedefDefinition d) = nodes_of_annotated d.ty
nodes_inside (IncludesStatement i) = []

abbrev pub nodes_of_definition : PlainDefinition → List Node
nodes_of_definition d = nodes_of_attributes d.attributes ++ (nodes_of_optional_name (declared_name d.kind) ++ nodes_inside d.kind)

-- everything that is written in these definitions
abbrev pub nodes_of : List PlainDefinition → List Node
nodes_of definitions = flat_map nodes_of_definition definitions
