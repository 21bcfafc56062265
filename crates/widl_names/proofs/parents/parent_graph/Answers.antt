use Rattle.std.proofs.Common.{arith}
use Rattle.widl_idl.specs.Meanings.{kind_of}
use Rattle.widl_idl.specs.MergingRules.{parent_numbers, parent_of}
use Rattle.widl_idl.specs.PlainTrees.{definition_of, plain_definitions}
use Rattle.widl_names.proofs.ParentGraphs.{links_more, links_all}
use Rattle.widl_names.proofs.NameMeanings.{all_plain}
use Rattle.widl_names.proofs.parents.parent_graph.Goals as goal

pub loop-definition-preserved : goal.loop-definition-preserved
loop-definition-preserved c = links_more (λ d. definition_of d.now) c.all-definitions.result.now (plain_definitions c.args.meanings.now) (all_plain _ _ c.all-definitions.ensures) (λ d. parent_numbers (plain_definitions c.args.meanings.now) (kind_of d.kind) (parent_of d.kind)) c.loop-definition.definition-index c.definition-item.result c.loop-definition.graph c.add_parent.new.graph (omega arith) c.definition-item.is c.in_ok-add_parent.ensures c.loop-definition.invariant

pub returns : goal.returns
returns c = links_all (λ d. definition_of d.now) c.all-definitions.result.now (plain_definitions c.args.meanings.now) (all_plain _ _ c.all-definitions.ensures) (λ d. parent_numbers (plain_definitions c.args.meanings.now) (kind_of d.kind) (parent_of d.kind)) c.loop-definition.definition-index c.loop-definition.graph (omega arith) c.loop-definition.invariant
