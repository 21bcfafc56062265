use Rattle.std.proofs.Common.{arith, ap, map, ◌∙◌}
use Rattle.std.proofs.lemmas.List.{take_all}
use Rattle.widl_idl.specs.MergedMembers as merged
use Rattle.widl_idl.specs.PlainTrees.{dictionary_member_of, plain_definitions}
use Rattle.widl_merge.proofs.Growing.{map_twice}
use Rattle.widl_merge.proofs.merged_dictionaries.members_meant.Goals as goal

pub returns : goal.returns
returns c =
    c.loop-member.invariant ∙ ap (map (λ m. merged.member_of (plain_definitions c.args.resolver.now) (dictionary_member_of m.now))) (take_all c.loop-member.member-index c.args.list.now (omega arith))
    ∙ map_twice (merged.member_of (plain_definitions c.args.resolver.now)) (λ m. dictionary_member_of m.now) c.args.list.now
