-- For proofs alone. The first violations by the rules of merging that read what is written a node at a time.
use Rattle.std.specs.Prelude.{List}
use Rattle.widl_idl.specs.First.{FirstWhere, Somewhere}
use Rattle.widl_idl.specs.MergingRules.{IsReservedName, IsUnknownType, NestsDeep}
use Rattle.widl_idl.specs.PlainTrees.{PlainDefinition}
use Rattle.widl_idl.specs.Nodes.{Node}
use Rattle.widl_merge.specs.declared.node_rules.NodeViolations.{NodeViolations}

-- for each rule the first violation at which it is broken somewhere among the nodes
pub record AreFirst (definitions : List PlainDefinition) (nodes : List Node) (violations : NodeViolations) : Type 0 where
  pub reserved : FirstWhere (Somewhere IsReservedName nodes) violations.reserved
  pub unknown : FirstWhere (Somewhere (IsUnknownType definitions) nodes) violations.unknown
  pub deep : FirstWhere (Somewhere (NestsDeep definitions) nodes) violations.deep

-- the same of one node
pub record AreFirstOf (definitions : List PlainDefinition) (node : Node) (violations : NodeViolations) : Type 0 where
  pub reserved : FirstWhere (IsReservedName node) violations.reserved
  pub unknown : FirstWhere (IsUnknownType definitions node) violations.unknown
  pub deep : FirstWhere (NestsDeep definitions node) violations.deep
