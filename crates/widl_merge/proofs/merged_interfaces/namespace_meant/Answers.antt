use Rattle.std.proofs.Common.{◌≡◌, ap, refl, subst, ◌∙◌}
use Rattle.widl_idl.specs.declared.kind.Kind.TheVariants as kinds
use Rattle.widl_idl.specs.Parts.{merged_members}
use Rattle.widl_idl.specs.PlainTrees.{member_of, plain_definitions}
use Rattle.widl_idl.specs.WrittenLiterals.{units_of}
use Rattle.widl_merge.specs.PlainMain.{plain_namespace}
use Rattle.widl_merge.specs.PutTogether.{ArePutTogether}
use Rattle.widl_merge.proofs.Made.{namespace_made}
use Rattle.widl_merge.proofs.Unbroken.{namespace_room}
use Rattle.widl_merge.proofs.merged_interfaces.namespace_meant.Goals as goal
use Rattle.widl_names.specs.Listings.{listed_members}
use Rattle.widl_names.proofs.PlainLists.{short_list}

pub put_together-requires : goal.put_together-requires
put_together-requires c =
    let text = (plain_namespace c.args.namespace.now).name.text in
    short_list (λ m. member_of m.now) c.deref.result.now _ _ c.deref.ensures.value (c.in_ok-list.ensures text kinds.Namespace c.requires.itself refl) (namespace_room (plain_definitions c.args.sources.now) c.requires.kept text c.args.number c.requires.itself)

pub returns : goal.returns
returns c =
    let all = plain_definitions c.args.sources.now in
    let plain = plain_namespace c.args.namespace.now in
    let m = c.in_ok-members.members in
    let same : listed_members c.deref.result.now ≡ merged_members all kinds.Namespace plain.name.text = ap listed_members c.deref.ensures.value ∙ c.in_ok-list.ensures plain.name.text kinds.Namespace c.requires.itself refl in
    let put : ArePutTogether all (merged_members all kinds.Namespace plain.name.text) m =
    subst (λ ms. ArePutTogether all ms m) same (subst (λ ds. ArePutTogether (plain_definitions ds) (listed_members c.deref.result.now) m) c.resolver.ensures c.in_ok-members.ensures) in
    namespace_made all plain m c.args.namespace.now.name.at c.in_ok-name.name put refl (c.in_ok-name.ensures ∙ ap units_of c.as_str.ensures.value)
