use Rattle.std.proofs.Common.{arith}
use Rattle.widl_inheritance.specs.MemberEnds.{end_of}
use Rattle.widl_inheritance.proofs.Keeping.{kept_all, kept_more}
use Rattle.widl_inheritance.proofs.member_names.keep_members.Goals as goal

pub loop-member-preserved : goal.loop-member-preserved
loop-member-preserved c =
    kept_more (end_of c.args.ends.now) (end_of c.loop-member.ends) (end_of c.keep_member.new.ends) c.args.span.start c.args.span.past c.args.members.now c.loop-member.member-index c.member-item.result c.loop-member.best c.in_ok-found.found c.earlier_violation-best.result
    c.requires (omega arith) c.member-item.is c.in_ok-found.ensures.keeps c.in_ok-found.ensures.found c.earlier_violation-best.ensures c.loop-member.invariant

pub returns-clause-keeps : goal.returns-clause-keeps
returns-clause-keeps c = (kept_all (end_of c.args.ends.now) (end_of c.loop-member.ends) c.args.span.start c.args.span.past c.args.members.now c.loop-member.member-index c.loop-member.best (omega arith) c.loop-member.invariant).ends

pub returns-clause-found : goal.returns-clause-found
returns-clause-found c = (kept_all (end_of c.args.ends.now) (end_of c.loop-member.ends) c.args.span.start c.args.span.past c.args.members.now c.loop-member.member-index c.loop-member.best (omega arith) c.loop-member.invariant).earliest
