use Rattle.std.proofs.Common.{arith, sym, ◌∙◌}
use Rattle.std.proofs.lemmas.Result.{on_ok_weaker}
use Rattle.std.proofs.lemmas.List.{length-map}
use Rattle.widl_idl.specs.PlainTrees.{definition_kind_of, definition_of, plain_definitions}
use Rattle.widl_names.proofs.NamedParts.{owner_below}
use Rattle.widl_names.proofs.PartLists.{put_one}
use Rattle.widl_names.proofs.parts.add_partial.Goals as goal

pub returns-in-Some : goal.returns-in-Some
returns-in-Some c =
    let below = owner_below (plain_definitions c.args.meanings.now) (definition_kind_of c.args.kind.now) c.in-Some.number (sym c.owner_of.ensures ∙ c.in-Some.is) in
    let size = length-map c.args.meanings.now definition_of in
    on_ok_weaker c.put_in_group.result (λ e. put_one c.args.groups.now.items c.put_in_group.new.groups.items _ c.in-Some.number c.args.kind (sym c.in-Some.is ∙ c.owner_of.ensures) (omega (arith, below, size)) e) c.put_in_group.ensures
