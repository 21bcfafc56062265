use Rattle.std.proofs.Common.{arith, refl}
use Rattle.widl_idl.specs.PlainTrees.{plain_definitions}
use Rattle.widl_inheritance.proofs.MemberFlags.{flags_all}
use Rattle.widl_inheritance.proofs.NumberedMembers.{all_counted}
use Rattle.widl_overload.specs.rules.IterableRules.{has_iterable, has_iteration_name}
use Rattle.widl_inheritance.proofs.interface_lines.own_flags.Goals as goal

pub returns-clause-iterable : goal.returns-clause-iterable
returns-clause-iterable c =
    let size = all_counted c.all-number-end.result.now c.args.scope.now c.all-number-end.ensures.all in
    flags_all has_iterable (plain_definitions c.args.scope.now) c.loop-number.number c.loop-number.iterable.items (omega arith) refl c.loop-number.invariant.0

pub returns-clause-named : goal.returns-clause-named
returns-clause-named c =
    let size = all_counted c.all-number-end.result.now c.args.scope.now c.all-number-end.ensures.all in
    flags_all has_iteration_name (plain_definitions c.args.scope.now) c.loop-number.number c.loop-number.named.items (omega arith) refl c.loop-number.invariant.1
