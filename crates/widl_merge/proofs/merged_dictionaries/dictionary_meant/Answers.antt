use Rattle.std.proofs.Common.{◌≡◌, ap, map, refl, subst, ◌∙◌}
use Rattle.widl_idl.specs.declared.kind.Kind.TheVariants as kinds
use Rattle.widl_idl.specs.DefinitionTerms.{member_term}
use Rattle.widl_idl.specs.MergedList.{parent_number}
use Rattle.widl_idl.specs.MergedMembers as merged
use Rattle.widl_idl.specs.Parts.{merged_dictionary_members}
use Rattle.widl_idl.specs.PlainTrees.{dictionary_member_of, plain_definitions}
use Rattle.widl_idl.specs.WrittenLiterals.{units_of}
use Rattle.widl_merge.specs.PlainMain.{plain_dictionary}
use Rattle.widl_merge.proofs.Made.{dictionary_made, parent_read}
use Rattle.widl_merge.proofs.merged_dictionaries.dictionary_meant.Goals as goal

pub returns : goal.returns
returns c =
    let all = plain_definitions c.args.sources.now in
    let plain = plain_dictionary c.args.dictionary.now in
    let list = map (λ m. dictionary_member_of m.now) c.deref.result.now in
    let same : list ≡ merged_dictionary_members all plain.name.text = ap (map (λ m. dictionary_member_of m.now)) c.deref.ensures.value ∙ c.in_ok-list.ensures plain.name.text c.requires.itself in
    let meant : map member_term c.in_ok-members.members ≡ map (merged.member_of all) list =
    subst (λ ds. map member_term c.in_ok-members.members ≡ map (merged.member_of (plain_definitions ds)) list) c.resolver.ensures c.in_ok-members.ensures in
    dictionary_made all plain list c.in_ok-members.members c.args.dictionary.now.name.at c.in_ok-name.name c.parent-parent.result meant same refl (c.in_ok-name.ensures ∙ ap units_of c.as_str.ensures.value)
    (c.parent-parent.ensures ∙ ap (parent_number all kinds.Dictionary) (parent_read c.as_ref.result c.args.dictionary.now.parent c.as_ref.ensures.value))
