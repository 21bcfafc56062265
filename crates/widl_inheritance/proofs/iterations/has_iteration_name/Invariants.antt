use Rattle.std.proofs.Common.{◌≡◌, take}
use Rattle.widl_names.specs.Listings.{listed_members}
use Rattle.widl_overload.specs.rules.IterableRules.{has_iteration_name}
use Rattle.widl_inheritance.proofs.iterations.has_iteration_name.Given as goal

abbrev pub invariant-loop-member : goal.invariant-loop-member
invariant-loop-member l = l.found ≡ has_iteration_name (listed_members (take l.member-index l.members))
