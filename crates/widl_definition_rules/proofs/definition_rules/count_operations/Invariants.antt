use Rattle.std.proofs.Common.{◌≡◌, ◌≤◌, length, take}
use Rattle.widl_idl.specs.MergedMembers.{operations_in}
use Rattle.widl_idl.specs.PlainTrees.{members_of}
use Rattle.widl_definition_rules.proofs.definition_rules.count_operations.Given as goal

abbrev pub invariant-loop-member : goal.invariant-loop-member
invariant-loop-member l = (l.count ≡ length (operations_in (members_of (take l.member-index l.members)))) × (l.count ≤ l.member-index)
