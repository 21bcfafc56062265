use Rattle.std.proofs.Common.{[], ◌∷◌, sym, ap, ◌∙◌, subst}
use Rattle.widl_idl.specs.FirstRefusal.{FirstBroken}
use Rattle.widl_idl.specs.MergingRules.{BreaksMerging, merging_number, merging_rules}
use Rattle.widl_idl.specs.declared.merging_rule.MergingRule.TheVariants as rule
use Rattle.widl_idl.specs.PlainTrees.{plain_definitions}
use Rattle.widl_idl.specs.Nodes.{nodes_of}
use Rattle.widl_merge.specs.NodeRules.{AreFirst}
use Rattle.widl_merge.proofs.merging.first_unmerged.Goals as goal

pub join_links-requires-clause-violations : goal.join_links-requires-clause-violations
join_links-requires-clause-violations c =
    let nodes = c.requires ∙ ap (λ ds. nodes_of (plain_definitions ds)) (sym c.meanings-meanings.ensures) in
    subst (λ all. AreFirst (plain_definitions c.meanings-meanings.result.now) all c.first_in_nodes-violations.result) nodes c.first_in_nodes-violations.ensures

pub join_names-requires : goal.join_names-requires
join_names-requires c =
    let nodes = c.requires ∙ ap (λ ds. nodes_of (plain_definitions ds)) (sym c.meanings-meanings.ensures) in
    subst (λ all. AreFirst (plain_definitions c.meanings-meanings.result.now) all c.first_in_nodes-violations.result) nodes c.first_in_nodes-violations.ensures

pub returns : goal.returns
returns c =
    let members = subst (λ ds. FirstBroken merging_number (BreaksMerging (plain_definitions ds)) (rule.OperationInTwoParts ∷ rule.TooManyMembers ∷ []) c.in_ok-best.best) (sym c.meanings-meanings.ensures) c.in_ok-best.ensures in
    subst (λ ds. FirstBroken merging_number (BreaksMerging (plain_definitions ds)) merging_rules c.join_names.result) c.meanings-meanings.ensures (c.join_names.ensures _ (c.in_ok-best-2.ensures _ members))
