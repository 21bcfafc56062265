use Rattle.std.proofs.Common.{arith, subst}
use Rattle.widl_idl.specs.FirstRefusal.{violation_of}
use Rattle.widl_idl.specs.PlainTrees.{definition_of, plain_definitions}
use Rattle.widl_idl.specs.Nodes.{nodes_of}
use Rattle.widl_idl.proofs.Somewhere.{nowhere}
use Rattle.widl_overload.specs.rules.OnMembers.{BreaksNode, NodesBreak, member_rules}
use Rattle.widl_member_rules.specs.MemberTypes.{member_nodes, own_members}
use Rattle.widl_refusals.specs.Refusals.{IsFirst}
use Rattle.widl_refusals.proofs.FirstRefusals.{all_items, next_item}
use Rattle.widl_member_rules.proofs.MemberRefusals.{definition_pushed}
use Rattle.widl_member_rules.proofs.member_types.find_in_member_types.Goals as goal

pub loop-definition-init : goal.loop-definition-init
loop-definition-init c = λ r b. nowhere (BreaksNode (plain_definitions c.args.resolver.now) b.which) (violation_of r) b.breaks

pub loop-definition-preserved : goal.loop-definition-preserved
loop-definition-preserved c =
    let definitions = plain_definitions c.args.resolver.now in
    next_item member_rules (λ ds. NodesBreak definitions (nodes_of ds)) (λ before d. NodesBreak definitions (member_nodes (own_members d.kind))) (definition_pushed definitions) (λ d. definition_of d.now) c.args.definitions.now c.loop-definition.definition-index c.definition-item.result c.loop-definition.best c.in_ok-found.found _ (omega arith) c.definition-item.is c.loop-definition.invariant
    (subst (λ ms. IsFirst (NodesBreak definitions (member_nodes ms)) member_rules c.in_ok-found.found) c.own_members-members.ensures c.in_ok-found.ensures) c.earlier_refusal-best.ensures

pub returns : goal.returns
returns c = all_items member_rules (λ ds. NodesBreak (plain_definitions c.args.resolver.now) (nodes_of ds)) (λ d. definition_of d.now) c.args.definitions.now c.loop-definition.definition-index c.loop-definition.best (omega arith) c.loop-definition.invariant
