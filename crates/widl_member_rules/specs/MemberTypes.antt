-- For proofs alone. Members among the nodes that are written.
use Rattle.std.specs.Prelude.{List, [], map}
use Rattle.widl_idl.specs.PlainTrees.{PlainKind, PlainMember, InterfaceDefinition, MixinDefinition, NamespaceDefinition}
use Rattle.widl_idl.specs.Nodes.{Node, MemberNode}

-- the members of an interface, a mixin or a namespace
abbrev pub own_members : PlainKind → List PlainMember
own_members (InterfaceDefinition i) = i.members
own_members (MixinDefinition m) = m.members
own_members (NamespaceDefinition n) = n.members
own_members kind = []

-- members among all that is written
abbrev pub member_nodes : List PlainMember → List Node
member_nodes members = map (λ (m : PlainMember). MemberNode m.kind) members
