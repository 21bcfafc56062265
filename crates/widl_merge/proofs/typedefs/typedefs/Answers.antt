use Rattle.std.proofs.Common.{arith, ◌++◌, ◌∷◌, [], ap, ◌∙◌}
use Rattle.widl_idl.specs.Nesting.{typedefs_in}
use Rattle.widl_idl.specs.PlainTrees.{definition_of, plain_definitions}
use Rattle.widl_names.proofs.ParentGraphs.{links_more, links_all}
use Rattle.widl_names.proofs.NameMeanings.{all_plain}
use Rattle.widl_merge.proofs.typedefs.typedefs.Goals as goal

pub loop-definition-preserved : goal.loop-definition-preserved
loop-definition-preserved c = links_more (λ d. definition_of d.now) c.all-definitions.result.now (plain_definitions c.args.meanings.now) (all_plain _ _ c.all-definitions.ensures) (λ d. typedefs_in (plain_definitions c.args.meanings.now) d.kind) c.loop-definition.definition-index c.definition-item.result c.loop-definition.graph c.add_linked.new.self (omega arith) c.definition-item.is (c.in_ok-add_linked.ensures ∙ ap (λ l. c.loop-definition.graph ++ l ∷ []) (c.as_slice.ensures.value ∙ c.in_ok-named.ensures)) c.loop-definition.invariant

pub returns : goal.returns
returns c = links_all (λ d. definition_of d.now) c.all-definitions.result.now (plain_definitions c.args.meanings.now) (all_plain _ _ c.all-definitions.ensures) (λ d. typedefs_in (plain_definitions c.args.meanings.now) d.kind) c.loop-definition.definition-index c.loop-definition.graph (omega arith) c.loop-definition.invariant
