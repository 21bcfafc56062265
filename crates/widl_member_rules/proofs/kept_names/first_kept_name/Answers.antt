use Rattle.std.proofs.Common.{arith, take, Bor}
use Rattle.widl_idl.specs.declared.tree.members.Member.{Member}
use Rattle.widl_idl.specs.PlainTrees.{member_of}
use Rattle.widl_overload.specs.rules.MemberRules.{HasKeptName}
use Rattle.widl_names.specs.Listings.{listed_members}
use Rattle.widl_names.proofs.MappedLoops.{at_one_end, at_one_step, none_at_one}
use Rattle.widl_member_rules.proofs.NamedViolations.{kept_first}
use Rattle.widl_member_rules.proofs.kept_names.first_kept_name.Goals as goal

pub loop-member-init : goal.loop-member-init
loop-member-init c = none_at_one HasKeptName

pub loop-member-preserved : goal.loop-member-preserved
loop-member-preserved c =
    at_one_step (λ (x : Bor Member). member_of x.now) c.args.members.now HasKeptName c.loop-member.member-index c.member-item.result c.loop-member.best c.kept_name-found.result c.earlier_violation-best.result (omega arith) c.member-item.is c.earlier_violation-best.ensures
    (kept_first (listed_members (take c.loop-member.member-index c.args.members.now)) (member_of c.member-item.result.now) c.kept_name-found.result c.kept_name-found.ensures) c.loop-member.invariant

pub returns : goal.returns
returns c = at_one_end (λ (x : Bor Member). member_of x.now) c.args.members.now HasKeptName c.loop-member.member-index c.loop-member.best (omega arith) c.loop-member.invariant
