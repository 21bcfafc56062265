use Rattle.std.proofs.Common.{◌≡◌, ◌++◌, map, take}
use Rattle.widl_idl.specs.PlainTrees.{dictionary_member_of}
use Rattle.widl_merge.specs.DictionaryTables.{listed_members}
use Rattle.widl_merge.proofs.dictionary_parts.add_members.Given as goal

abbrev pub invariant-loop-member : goal.invariant-loop-member
invariant-loop-member l = listed_members l.list.items ≡ listed_members l.fn.list.items ++ map dictionary_member_of (take l.member-index l.member-items)
