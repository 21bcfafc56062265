-- What is written in a set of files, as the program lists it.
use Rattle.std.specs.Prelude.{◌≡◌, List, ◌++◌, map}
use Rattle.std.proofs.Common.{Bor}
use Rattle.widl_idl.specs.Nodes as written
use Rattle.widl_idl.specs.Nodes.{TypeNode, AttributeNode, LiteralNode, NameNode, MemberNode, CallbackMemberNode}
use Rattle.widl_idl.specs.PlainTypes.{name_of, attribute_of, literal_of, type_of}
use Rattle.widl_idl.specs.declared.tree.definitions.Definition.{Definition}
use Rattle.widl_idl.specs.declared.tree.members.Member.{Member}
use Rattle.widl_idl.specs.PlainTrees.{PlainDefinition, PlainMember, definition_of, member_of, member_kind_of}
use Rattle.widl_names.specs.declared.nodes.Node.{Node}
use Rattle.widl_names.specs.declared.nodes.Node.TheVariants as listed

-- the definitions of a list, as definitions see them
abbrev pub listed_definitions : List (Bor Definition) → List PlainDefinition
listed_definitions list = map (λ d. definition_of d.now) list

-- the members of a list, as definitions see them
abbrev pub listed_members : List (Bor Member) → List PlainMember
listed_members list = map (λ m. member_of m.now) list

-- a node without its place in memory
abbrev pub node_of : Node → written.Node
node_of (listed.Type t) = TypeNode (type_of t.now)
node_of (listed.Attribute a) = AttributeNode (attribute_of a.now)
node_of (listed.Literal l) = LiteralNode (literal_of l.now)
node_of (listed.Name name) = NameNode (name_of name.now)
node_of (listed.Member kind) = MemberNode (member_kind_of kind.now)
node_of (listed.CallbackMember kind) = CallbackMemberNode (member_kind_of kind.now)

abbrev pub nodes_listed : List Node → List written.Node
nodes_listed nodes = map node_of nodes

-- the nodes are put after those that were there
abbrev pub Adds : List Node → List Node → List written.Node → Type 0
Adds old new nodes = nodes_listed new ≡ nodes_listed old ++ nodes
