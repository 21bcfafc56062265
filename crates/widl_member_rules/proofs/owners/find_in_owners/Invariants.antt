use Rattle.std.proofs.Common.{take}
use Rattle.widl_idl.specs.PlainTrees.{plain_definitions}
use Rattle.widl_names.specs.Listings.{listed_definitions}
use Rattle.widl_overload.specs.rules.OnMembers.{member_rules}
use Rattle.widl_member_rules.specs.Owners.{OwnersBreak}
use Rattle.widl_refusals.specs.Refusals.{IsFirst}
use Rattle.widl_member_rules.proofs.owners.find_in_owners.Given as goal

abbrev pub invariant-loop-number : goal.invariant-loop-number
invariant-loop-number l = IsFirst (OwnersBreak (plain_definitions l.fn.scope) (listed_definitions (take l.number l.definitions))) member_rules l.best
