use Rattle.std.proofs.Common.{arith}
use Rattle.widl_idl.specs.PlainTrees.{member_of}
use Rattle.widl_member_rules.specs.MemberTables.{is_constructor, is_overload, overload_count}
use Rattle.widl_member_rules.proofs.Counted.{counted_end, counted_step, nothing_counted, within_next}
use Rattle.widl_member_rules.proofs.overload_counts.first_overload_past_limit.Goals as goal

pub loop-member-init : goal.loop-member-init
loop-member-init c = (
  nothing_counted (overload_count c.new-counts.result.operations.regular c.new-counts.result.operations.fixed) c.new-counts.result.constructors c.new-counts.ensures.operations c.new-counts.ensures.constructors,
  λ text static. let none = c.new-counts.ensures.operations text static in omega (arith, none),
  let none = c.new-counts.ensures.constructors in omega (arith, none),
)

pub add-requires : goal.add-requires
add-requires c = record {
  operations = λ text static. let below = c.loop-member.invariant.1 text static in omega (arith, below);
  constructors = let below = c.loop-member.invariant.2 in omega (arith, below);
}

pub loop-member-preserved : goal.loop-member-preserved
loop-member-preserved c = (
  counted_step (overload_count c.loop-member.counts.operations.regular c.loop-member.counts.operations.fixed) (overload_count c.add.new.self.operations.regular c.add.new.self.operations.fixed) c.loop-member.counts.constructors c.add.new.self.constructors
      c.args.members.now c.loop-member.member-index c.member-item.result c.loop-member.best c.past_limit-found.result c.earlier_violation-best.result (omega arith) c.member-item.is c.past_limit-found.ensures c.earlier_violation-best.ensures
      c.in_ok-add.ensures.operations c.in_ok-add.ensures.constructors c.loop-member.invariant.0,
  λ text static. within_next (is_overload text static (member_of c.member-item.result.now).kind) _ _ c.loop-member.member-index (c.in_ok-add.ensures.operations text static) (c.loop-member.invariant.1 text static),
  within_next (is_constructor (member_of c.member-item.result.now).kind) _ _ c.loop-member.member-index c.in_ok-add.ensures.constructors c.loop-member.invariant.2,
)

pub returns : goal.returns
returns c = counted_end (overload_count c.loop-member.counts.operations.regular c.loop-member.counts.operations.fixed) c.loop-member.counts.constructors c.args.members.now c.loop-member.member-index c.loop-member.best (omega arith) c.loop-member.invariant.0
