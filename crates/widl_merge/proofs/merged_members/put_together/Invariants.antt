use Rattle.std.proofs.Common.{take}
use Rattle.widl_idl.specs.PlainTrees.{plain_definitions}
use Rattle.widl_merge.specs.PutTogether.{Gathered, number_named}
use Rattle.widl_merge.proofs.merged_members.put_together.Given as goal
use Rattle.widl_names.specs.Listings.{listed_members}

abbrev pub invariant-loop-member : goal.invariant-loop-member
invariant-loop-member l = Gathered (plain_definitions l.resolver) (listed_members (take l.member-index l.members)) l.merged (number_named l.numbers.regular l.numbers.fixed)
