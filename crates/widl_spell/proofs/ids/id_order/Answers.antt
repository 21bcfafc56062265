use Rattle.std.proofs.Common.{sym, subst, map, ◌∙◌}
use Rattle.std.proofs.lemmas.List.{length-map}
use Rattle.widl_idl.specs.DefinitionTerms.{IfaceTerm, iface_term}
use Rattle.widl_spell.specs.Ids.{parents_of}
use Rattle.widl_spell.specs.Ready.{AreHeirs, is_ready}
use Rattle.widl_spell.proofs.Giving.{one_more_id}
use Rattle.widl_spell.proofs.ids.id_order.Goals as goal

pub loop-id-preserved : goal.loop-id-preserved
loop-id-preserved c =
    let parents = parents_of (map iface_term c.args.ifaces.now) in
    let heirs = subst (AreHeirs parents c.in_ok-heirs.heirs.items) (sym (length-map (map iface_term c.args.ifaces.now) (λ (i : IfaceTerm). i.parent) ∙ length-map c.args.ifaces.now iface_term)) c.in_ok-heirs.ensures in
    one_more_id parents c.in_ok-heirs.heirs.items c.loop-id._id c.loop-id.order.items c.give_next.new.order.items (is_ready c.loop-id.ready) (is_ready c.give_next.new.ready) heirs c.in_ok-give_next.ensures c.loop-id.invariant
