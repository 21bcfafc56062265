use Rattle.std.proofs.Common.{◌≡◌, take}
use Rattle.widl_idl.specs.Nodes.{nodes_of}
use Rattle.widl_names.specs.Listings.{nodes_listed, listed_definitions}
use Rattle.widl_names.proofs.listings.list_nodes.Given as goal

abbrev pub invariant-loop-definition : goal.invariant-loop-definition
invariant-loop-definition l = nodes_listed l.nodes.items ≡ nodes_of (listed_definitions (take l.definition-index l.definitions))
