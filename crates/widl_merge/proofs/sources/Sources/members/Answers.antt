use Rattle.std.proofs.Common.{◌≡◌, ℕ, List, flat_map, true, sym, subst, ◌∙◌}
use Rattle.std.proofs.lemmas.Result.{IfOk-weaker}
use Rattle.widl_idl.specs.declared.kind.Kind.{Kind}
use Rattle.widl_idl.specs.Parts.{members_in, merged_members}
use Rattle.widl_idl.specs.PlainTrees.{plain_definitions}
use Rattle.widl_names.specs.PartTables.{ListsParts, has_parts, listed_parts}
use Rattle.widl_names.proofs.KeptMembers.{merged_listed}
use Rattle.widl_merge.specs.GrownLists.{Means}
use Rattle.widl_names.specs.Listings.{listed_members}
use Rattle.widl_merge.proofs.sources.Sources.members.Goals as goal

pub returns : goal.returns
returns c =
    let all = plain_definitions c.args.self.now in
    let parts = listed_parts c.deref.result.now in
    let same = c.parts.ensures ∙ c.self.view_is in
    let lists : ListsParts all c.args.number parts =
    subst (λ definitions. ListsParts (plain_definitions definitions) c.args.number parts) same
    (subst (λ items. ListsParts (plain_definitions c.parts.result.now) c.args.number (listed_parts items)) (sym c.deref.ensures.value) c.in_ok-parts.ensures) in
    IfOk-weaker c.list_members.result (λ list. listed_members list.items ≡ flat_map members_in parts)
    (λ list. (text : List ℕ) (kind : Kind) → Means all text c.args.number kind → has_parts kind ≡ true → listed_members list.items ≡ merged_members all kind text)
    (λ list e. λ text kind m has. e ∙ merged_listed all c.args.number text kind parts lists m.means m.of_kind has) c.list_members.ensures
