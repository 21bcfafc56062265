use Rattle.std.proofs.Common.{arith, sym}
use Rattle.std.proofs.lemmas.List.Folds.{flat_map-map}
use Rattle.widl_idl.specs.PlainTrees.{dictionary_member_of}
use Rattle.widl_overload.specs.rules.TypeUses.{uses_of_dictionary_member}
use Rattle.widl_names.proofs.Listed.{listed_all}
use Rattle.widl_type_rules.proofs.type_uses.list_dictionary_members.Goals as goal

pub returns : goal.returns
returns c = listed_all (λ x. uses_of_dictionary_member (dictionary_member_of x)) c.args.members.now c.loop-member.member-index _ _ _ (omega arith) (sym (flat_map-map uses_of_dictionary_member dictionary_member_of c.args.members.now)) c.loop-member.invariant
