use Rattle.std.proofs.Common.{take}
use Rattle.widl_idl.specs.First.{FirstWhere, Somewhere}
use Rattle.widl_names.specs.Listings.{listed_members}
use Rattle.widl_inheritance.proofs.IterationSteps.{HidesHere}
use Rattle.widl_inheritance.proofs.iterations.first_hiding_iterable.Given as goal

abbrev pub invariant-loop-member : goal.invariant-loop-member
invariant-loop-member l = FirstWhere (Somewhere (HidesHere l.fn.named) (take l.member-index (listed_members l.members))) l.best
