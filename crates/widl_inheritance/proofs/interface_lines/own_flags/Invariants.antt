use Rattle.widl_idl.specs.PlainTrees.{plain_definitions}
use Rattle.widl_inheritance.proofs.MemberFlags.{TellsFirst}
use Rattle.widl_overload.specs.rules.IterableRules.{has_iterable, has_iteration_name}
use Rattle.widl_inheritance.proofs.interface_lines.own_flags.Given as goal

abbrev pub invariant-loop-number : goal.invariant-loop-number
invariant-loop-number l = TellsFirst has_iterable (plain_definitions l.fn.scope) l.number l.iterable.items × TellsFirst has_iteration_name (plain_definitions l.fn.scope) l.number l.named.items
