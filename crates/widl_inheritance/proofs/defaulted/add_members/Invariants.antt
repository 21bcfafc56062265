use Rattle.std.proofs.Common.{◌≡◌, ◌++◌, take, map}
use Rattle.std.specs.List.{flat_map}
use Rattle.widl_idl.specs.PlainTrees.{dictionary_member_of}
use Rattle.widl_inheritance.specs.WrittenDefaults.{default_of_member, listed_defaults}
use Rattle.widl_inheritance.proofs.defaulted.add_members.Given as goal

abbrev pub invariant-loop-member : goal.invariant-loop-member
invariant-loop-member l = listed_defaults l.defaults.items ≡ listed_defaults l.initial.defaults.items ++ flat_map default_of_member (map dictionary_member_of (take l.member-index l.members))
