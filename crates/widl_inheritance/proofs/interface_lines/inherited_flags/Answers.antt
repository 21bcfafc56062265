use Rattle.std.proofs.Common.{sym, subst}
use Rattle.widl_graph.specs.Reaching.{AreNodes}
use Rattle.widl_idl.specs.PlainTrees.{plain_definitions}
use Rattle.widl_names.proofs.ParentGraphs.{parents_are_nodes}
use Rattle.widl_inheritance.proofs.interface_lines.inherited_flags.Goals as goal

pub over-requires : goal.over-requires
over-requires c = subst AreNodes (sym c.in_ok-graph.ensures) (parents_are_nodes (plain_definitions c.args.meanings.now))
