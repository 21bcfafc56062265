use Rattle.std.proofs.Common.{◌≡◌, map, take}
use Rattle.widl_idl.specs.DefinitionTerms.{member_term}
use Rattle.widl_idl.specs.MergedMembers as merged
use Rattle.widl_idl.specs.PlainTrees.{dictionary_member_of, plain_definitions}
use Rattle.widl_merge.proofs.merged_dictionaries.members_meant.Given as goal

abbrev pub invariant-loop-member : goal.invariant-loop-member
invariant-loop-member l = map member_term l.members ≡ map (λ m. merged.member_of (plain_definitions l.resolver) (dictionary_member_of m.now)) (take l.member-index l.list)
