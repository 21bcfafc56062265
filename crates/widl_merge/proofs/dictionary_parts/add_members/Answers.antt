use Rattle.std.proofs.Common.{◌++◌, ◌∷◌, [], map, take, append_assoc, sym, ap, ◌∙◌}
use Rattle.std.proofs.lemmas.List.{map-append, take_more}
use Rattle.widl_idl.specs.PlainTrees.{dictionary_member_of}
use Rattle.widl_merge.specs.DictionaryTables.{listed_members}
use Rattle.widl_merge.proofs.dictionary_parts.add_members.Goals as goal

pub loop-member-preserved : goal.loop-member-preserved
loop-member-preserved c =
    let before = take c.loop-member.member-index c.dictionary_members_in-member-items.result.now in
    let added = dictionary_member_of c.member-item.result ∷ [] in
    ap listed_members c.in_ok-push.ensures.items
    ∙ map-append (λ m. dictionary_member_of m.now) c.loop-member.list.items _
    ∙ ap (λ l. l ++ added) c.loop-member.invariant
    ∙ append_assoc (listed_members c.args.list.now.items) (map dictionary_member_of before) added
    ∙ ap (λ l. listed_members c.args.list.now.items ++ l) (sym (ap (map dictionary_member_of) (take_more c.dictionary_members_in-member-items.result.now c.loop-member.member-index c.member-item.result c.loop-member-test.true ∙ ap (λ y. before ++ y ∷ []) (sym c.member-item.is)) ∙ map-append dictionary_member_of before (c.member-item.result ∷ [])))
