use Rattle.std.proofs.Common.{take}
use Rattle.widl_idl.specs.PlainTrees.{plain_definitions}
use Rattle.widl_idl.specs.Nodes.{nodes_of}
use Rattle.widl_names.specs.Listings.{listed_definitions}
use Rattle.widl_overload.specs.rules.OnMembers.{NodesBreak, member_rules}
use Rattle.widl_refusals.specs.Refusals.{IsFirst}
use Rattle.widl_member_rules.proofs.member_types.find_in_member_types.Given as goal

abbrev pub invariant-loop-definition : goal.invariant-loop-definition
invariant-loop-definition l = IsFirst (NodesBreak (plain_definitions l.resolver) (nodes_of (listed_definitions (take l.definition-index l.definitions)))) member_rules l.best
