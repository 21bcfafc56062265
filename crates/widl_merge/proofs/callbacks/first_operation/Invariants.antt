use Rattle.std.proofs.Common.{◌≡◌, drop}
use Rattle.widl_idl.specs.MergedMembers.{first_in, operations_in}
use Rattle.widl_idl.specs.PlainTrees.{members_of}
use Rattle.widl_merge.proofs.callbacks.first_operation.Given as goal

abbrev pub invariant-loop-member : goal.invariant-loop-member
invariant-loop-member l = first_in (operations_in (members_of l.members)) ≡ first_in (operations_in (members_of (drop l.member-index l.members)))
