use Rattle.std.proofs.Common.{take}
use Rattle.widl_idl.specs.First.{FirstWhere, Somewhere}
use Rattle.widl_idl.specs.PlainTrees.{members_of}
use Rattle.widl_merge.specs.Repeats.{IsKnown}
use Rattle.widl_names.specs.KnownTexts.{has_name}
use Rattle.widl_merge.proofs.operations.first_known.Given as goal

abbrev pub invariant-loop-member : goal.invariant-loop-member
invariant-loop-member l = FirstWhere (Somewhere (IsKnown (has_name l.known)) (members_of (take l.member-index l.members))) l.best
