use Rattle.std.proofs.Common.{sym, subst}
use Rattle.widl_graph.specs.Reaching.{TellsCyclic}
use Rattle.widl_idl.specs.First.{FirstWhere}
use Rattle.widl_idl.specs.MergingRules.{ComesBack}
use Rattle.widl_idl.specs.Nesting.{typedef_links}
use Rattle.widl_idl.specs.PlainTrees.{plain_definitions}
use Rattle.widl_names.proofs.NameMeanings.{all_plain}
use Rattle.widl_merge.proofs.typedefs.first_typedef_reaching_itself.Goals as goal

pub returns : goal.returns
returns c =
    let links = typedef_links (plain_definitions c.args.meanings.now) in
    subst (λ ds. FirstWhere (ComesBack links ds) c.first_coming_back.result) (all_plain _ _ c.all.ensures) (c.first_coming_back.ensures links (subst (TellsCyclic links) (sym c.as_slice.ensures.value) c.requires.cyclic))
