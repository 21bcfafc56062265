use Rattle.std.proofs.Common.{take}
use Rattle.widl_names.specs.Listings.{listed_members}
use Rattle.widl_inheritance.proofs.IterationSteps.{Seen}
use Rattle.widl_inheritance.proofs.iterations.first_second_iterable.Given as goal

abbrev pub invariant-loop-member : goal.invariant-loop-member
invariant-loop-member l = Seen l.fn.inherited l.seen (listed_members (take l.member-index l.members)) l.best
