use Rattle.widl_idl.specs.First.{FirstWhere}
use Rattle.widl_idl.specs.PlainTrees.{plain_definitions}
use Rattle.widl_inheritance.specs.Iterations.{BelowCount, HasSecondAt, HidesAt}
use Rattle.widl_inheritance.proofs.iterables.find_in_interfaces.Given as goal

abbrev pub invariant-loop-number : goal.invariant-loop-number
invariant-loop-number l =
    FirstWhere (BelowCount (HasSecondAt (plain_definitions l.fn.scope) l.fn.inherited.iterable.items) l.number) l.best.second
    × FirstWhere (BelowCount (HidesAt (plain_definitions l.fn.scope) l.fn.own.named.items l.fn.inherited.named.items) l.number) l.best.hidden
