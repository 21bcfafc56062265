use Rattle.std.proofs.Common.{◌≡◌, length, arith, subst}
use Rattle.widl_idl.specs.First.{FirstWhere}
use Rattle.widl_idl.specs.PlainTrees.{plain_definitions}
use Rattle.widl_inheritance.specs.Iterations.{BelowCount, HasSecondAt, HidesAt}
use Rattle.widl_inheritance.proofs.BrokenInterfaces.{below_next}
use Rattle.widl_inheritance.proofs.NumberedMembers.{all_counted}
use Rattle.widl_inheritance.proofs.iterables.find_in_interfaces.Goals as goal

pub loop-number-preserved : goal.loop-number-preserved
loop-number-preserved c =
    let all = plain_definitions c.args.scope.now in (
      below_next (HasSecondAt all c.args.inherited.now.iterable.items) c.loop-number.number c.loop-number.best.second c.in_ok-found.found.second c.earlier_violations-best.result.second c.loop-number.invariant.0 c.in_ok-found.ensures.second c.earlier_violations-best.ensures.second,
      below_next (HidesAt all c.args.own.now.named.items c.args.inherited.now.named.items) c.loop-number.number c.loop-number.best.hidden c.in_ok-found.found.hidden c.earlier_violations-best.result.hidden c.loop-number.invariant.1 c.in_ok-found.ensures.hidden c.earlier_violations-best.ensures.hidden,
    )

pub returns-clause-second : goal.returns-clause-second
returns-clause-second c =
    let all = plain_definitions c.args.scope.now in
    let size = all_counted c.all-number-end.result.now c.args.scope.now c.all-number-end.ensures.all in
    let past : c.loop-number.number ≡ length all = omega arith in
    subst (λ n. FirstWhere (BelowCount (HasSecondAt all c.args.inherited.now.iterable.items) n) c.loop-number.best.second) past c.loop-number.invariant.0

pub returns-clause-hidden : goal.returns-clause-hidden
returns-clause-hidden c =
    let all = plain_definitions c.args.scope.now in
    let size = all_counted c.all-number-end.result.now c.args.scope.now c.all-number-end.ensures.all in
    let past : c.loop-number.number ≡ length all = omega arith in
    subst (λ n. FirstWhere (BelowCount (HidesAt all c.args.own.now.named.items c.args.inherited.now.named.items) n) c.loop-number.best.hidden) past c.loop-number.invariant.1
