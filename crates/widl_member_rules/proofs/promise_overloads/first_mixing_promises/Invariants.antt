use Rattle.std.proofs.Common.{take}
use Rattle.widl_idl.specs.PlainTrees.{plain_definitions}
use Rattle.widl_member_rules.specs.MemberTables.{has_returned}
use Rattle.widl_member_rules.proofs.Returned.{Returned}
use Rattle.widl_member_rules.proofs.promise_overloads.first_mixing_promises.Given as goal
use Rattle.widl_names.specs.Listings.{listed_members}

abbrev pub invariant-loop-member : goal.invariant-loop-member
invariant-loop-member l = Returned (has_returned l.names.promises l.names.others) (plain_definitions l.fn.resolver) (listed_members (take l.member-index l.members)) l.best
