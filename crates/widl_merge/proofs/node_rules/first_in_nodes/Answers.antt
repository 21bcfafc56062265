use Rattle.std.proofs.Common.{arith, refl, rules}
use Rattle.widl_idl.specs.MergingRules.{IsReservedName, IsUnknownType, NestsDeep}
use Rattle.widl_idl.specs.PlainTrees.{plain_definitions}
use Rattle.widl_names.specs.Listings.{node_of, nodes_listed}
use Rattle.widl_names.proofs.Mapped.{next_somewhere, all_somewhere}
use Rattle.widl_merge.proofs.node_rules.first_in_nodes.Goals as goal

pub loop-node-preserved : goal.loop-node-preserved
loop-node-preserved c =
    let definitions = plain_definitions c.args.meanings.now in
    let nodes = nodes_listed c.args.nodes.now in record {
      reserved = next_somewhere node_of c.args.nodes.now nodes refl IsReservedName c.loop-node.node-index _ c.loop-node.best.reserved c.violations_of-found.result.reserved _ (omega arith) (search rules) c.loop-node.invariant.reserved c.violations_of-found.ensures.reserved c.earlier_violations-best.ensures.reserved;
      unknown = next_somewhere node_of c.args.nodes.now nodes refl (IsUnknownType definitions) c.loop-node.node-index _ c.loop-node.best.unknown c.violations_of-found.result.unknown _ (omega arith) (search rules) c.loop-node.invariant.unknown c.violations_of-found.ensures.unknown c.earlier_violations-best.ensures.unknown;
      deep = next_somewhere node_of c.args.nodes.now nodes refl (NestsDeep definitions) c.loop-node.node-index _ c.loop-node.best.deep c.violations_of-found.result.deep _ (omega arith) (search rules) c.loop-node.invariant.deep c.violations_of-found.ensures.deep c.earlier_violations-best.ensures.deep;
    }

pub returns : goal.returns
returns c =
    let definitions = plain_definitions c.args.meanings.now in
    let nodes = nodes_listed c.args.nodes.now in record {
      reserved = all_somewhere node_of c.args.nodes.now nodes refl IsReservedName c.loop-node.node-index c.loop-node.best.reserved (omega arith) c.loop-node.invariant.reserved;
      unknown = all_somewhere node_of c.args.nodes.now nodes refl (IsUnknownType definitions) c.loop-node.node-index c.loop-node.best.unknown (omega arith) c.loop-node.invariant.unknown;
      deep = all_somewhere node_of c.args.nodes.now nodes refl (NestsDeep definitions) c.loop-node.node-index c.loop-node.best.deep (omega arith) c.loop-node.invariant.deep;
    }
