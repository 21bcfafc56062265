use Rattle.std.proofs.Common.{◌≡◌, ◌++◌, take}
use Rattle.widl_idl.specs.PlainTrees.{members_of}
use Rattle.widl_overload.specs.rules.ArgumentRules.{lists_in_members}
use Rattle.widl_inheritance.specs.WrittenLists.{listed_arguments}
use Rattle.widl_inheritance.proofs.argument_lists.add_members.Given as goal

abbrev pub invariant-loop-member : goal.invariant-loop-member
invariant-loop-member l = listed_arguments l.lists.items ≡ listed_arguments l.initial.lists.items ++ lists_in_members l.all (members_of (take l.member-index l.members))
