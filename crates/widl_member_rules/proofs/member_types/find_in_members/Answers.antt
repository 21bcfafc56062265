use Rattle.std.proofs.Common.{arith}
use Rattle.widl_idl.specs.FirstRefusal.{violation_of}
use Rattle.widl_idl.specs.PlainTrees.{member_of, plain_definitions}
use Rattle.widl_idl.specs.Nodes.{MemberNode}
use Rattle.widl_idl.proofs.Somewhere.{nowhere}
use Rattle.widl_overload.specs.rules.OnMembers.{BreaksNode, NodesBreak, member_rules}
use Rattle.widl_member_rules.specs.MemberTypes.{member_nodes}
use Rattle.widl_refusals.proofs.FirstRefusals.{all_items, next_item}
use Rattle.widl_member_rules.proofs.MemberRefusals.{member_pushed}
use Rattle.widl_member_rules.proofs.member_types.find_in_members.Goals as goal

pub loop-member-init : goal.loop-member-init
loop-member-init c = λ r b. nowhere (BreaksNode (plain_definitions c.args.resolver.now) b.which) (violation_of r) b.breaks

pub loop-member-preserved : goal.loop-member-preserved
loop-member-preserved c =
    let definitions = plain_definitions c.args.resolver.now in
    next_item member_rules (λ ms. NodesBreak definitions (member_nodes ms)) (λ before m which. BreaksNode definitions which (MemberNode m.kind)) (member_pushed definitions) member_of c.args.members.now c.loop-member.member-index c.member-item.result c.loop-member.best c.in_ok-found.found _ (omega arith) c.member-item.is c.loop-member.invariant c.in_ok-found.ensures c.earlier_refusal-best.ensures

pub returns : goal.returns
returns c = all_items member_rules (λ ms. NodesBreak (plain_definitions c.args.resolver.now) (member_nodes ms)) member_of c.args.members.now c.loop-member.member-index c.loop-member.best (omega arith) c.loop-member.invariant
