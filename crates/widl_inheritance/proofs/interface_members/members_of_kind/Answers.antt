use Rattle.std.proofs.Common.{◌≡◌, flat_map, sym, ap, subst, ◌∙◌}
use Rattle.std.proofs.lemmas.Result.{IfOk-weaker}
use Rattle.widl_idl.specs.Parts.{members_in}
use Rattle.widl_idl.specs.PlainTrees.{definition_kind_of, plain_definitions}
use Rattle.widl_inheritance.specs.InterfaceMembers.{is_meant_interface, members_at}
use Rattle.widl_inheritance.proofs.NumberedMembers.{none_meant, parts_listed}
use Rattle.widl_names.specs.PartTables.{ListsParts, listed_parts}
use Rattle.widl_inheritance.proofs.interface_members.members_of_kind.Goals as goal
use Rattle.widl_names.specs.Listings.{listed_members}

pub returns-in_ok-list : goal.returns-in_ok-list
returns-in_ok-list c =
    let all = plain_definitions c.args.scope.now in
    let kind = definition_kind_of c.args.kind.now in
    let list = listed_parts c.in_ok-list.list.items in
    let lists : ListsParts all c.args.number list = subst (λ definitions. ListsParts (plain_definitions definitions) c.args.number list) c.parts.ensures c.in_ok-list.ensures in
    IfOk-weaker c.list_members.result (λ found. listed_members found.items ≡ flat_map members_in (listed_parts c.deref.result.now)) (λ found. listed_members found.items ≡ members_at all c.args.number)
    (λ found e. e ∙ ap (λ items. flat_map members_in (listed_parts items)) c.deref.ensures.value ∙ parts_listed all c.args.number kind list c.requires (ap (λ ds. is_meant_interface (plain_definitions ds) c.args.number kind) (sym c.meanings.ensures) ∙ sym c.is_meant_interface.ensures ∙ c.if-is_meant_interface.true) lists)
    c.list_members.ensures

pub returns-else-is_meant_interface : goal.returns-else-is_meant_interface
returns-else-is_meant_interface c = ap listed_members c.new.ensures.items ∙ sym (none_meant (plain_definitions c.args.scope.now) c.args.number (definition_kind_of c.args.kind.now) c.requires (ap (λ ds. is_meant_interface (plain_definitions ds) c.args.number (definition_kind_of c.args.kind.now)) (sym c.meanings.ensures) ∙ sym c.is_meant_interface.ensures ∙ c.if-is_meant_interface.false))
