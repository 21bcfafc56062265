use Rattle.std.proofs.Common.{◌≡◌, ℕ, Bool, List, ◌||◌, take}
use Rattle.std.specs.List.{list_any}
use Rattle.widl_idl.specs.MergingRules.{is_operation_of}
use Rattle.widl_idl.specs.PlainTrees.{members_of}
use Rattle.widl_names.specs.KnownTexts.{has_name}
use Rattle.widl_merge.proofs.operations.add_all.Given as goal

abbrev pub invariant-loop-member : goal.invariant-loop-member
invariant-loop-member l = (text : List ℕ) (static : Bool) → has_name l.known text static ≡ (has_name l.fn.known text static || list_any (λ m. is_operation_of text static m.kind) (members_of (take l.member-index l.members)))
