use Rattle.std.proofs.Common.{arith, None, Bor}
use Rattle.widl_idl.specs.declared.tree.members.Member.{Member}
use Rattle.widl_idl.specs.PlainTrees.{member_of}
use Rattle.widl_names.proofs.MappedLoops.{at_one_end}
use Rattle.widl_member_rules.specs.ApartMembers.{SharesLabel}
use Rattle.widl_member_rules.proofs.ApartMembers.{apart_step}
use Rattle.widl_member_rules.proofs.apart_members.are_apart.Goals as goal

pub loop-place-preserved : goal.loop-place-preserved
loop-place-preserved c = apart_step c.args.members.now c.loop-place.place c.index-members-place.result c.any_labeled.result _ (omega arith) c.index-members-place.is c.label.ensures c.any_labeled.ensures c.if-any_labeled.false c.loop-place.invariant

pub returns : goal.returns
returns c = λ yes. at_one_end (λ (x : Bor Member). member_of x.now) c.args.members.now SharesLabel c.loop-place.place None (omega arith) c.loop-place.invariant
