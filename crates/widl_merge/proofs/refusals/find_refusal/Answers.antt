use Rattle.std.proofs.Common.{ap, ◌∙◌}
use Rattle.widl_idl.specs.Nodes.{nodes_of}
use Rattle.widl_names.specs.Listings.{nodes_listed}
use Rattle.widl_names.proofs.PlainLists.{listed_same}
use Rattle.widl_merge.proofs.refusals.find_refusal.Goals as goal

pub find_in_nodes-requires : goal.find_in_nodes-requires
find_in_nodes-requires c = ap nodes_listed c.deref.ensures.value ∙ c.in_ok-nodes.ensures ∙ ap nodes_of (listed_same c.all.result.now c.args.scope.now c.all.ensures.all)
