use Rattle.std.proofs.Common.{sym, subst}
use Rattle.widl_graph.specs.Reaching.{AreNodes, TellsCyclic}
use Rattle.widl_idl.specs.First.{FirstWhere}
use Rattle.widl_idl.specs.MergingRules.{ComesBack, parent_links}
use Rattle.widl_idl.specs.PlainTrees.{plain_definitions}
use Rattle.widl_names.proofs.ParentGraphs.{parents_are_nodes}
use Rattle.widl_names.proofs.NameMeanings.{all_plain}
use Rattle.widl_merge.proofs.parents.first_inheriting_from_itself.Goals as goal

pub over-requires : goal.over-requires
over-requires c = subst AreNodes (sym c.in_ok-graph.ensures) (parents_are_nodes (plain_definitions c.args.meanings.now))

pub returns : goal.returns
returns c =
    let definitions = plain_definitions c.args.meanings.now in
    let tells = subst (λ links. TellsCyclic links c.in_ok-walk.walk.cyclic.items) c.in_ok-graph.ensures c.in_ok-walk.ensures.cyclic in
    subst (λ ds. FirstWhere (ComesBack (parent_links definitions) ds) c.first_coming_back.result) (all_plain _ _ c.all.ensures) (c.first_coming_back.ensures (parent_links definitions) (subst (TellsCyclic (parent_links definitions)) (sym c.as_slice.ensures.value) tells))
