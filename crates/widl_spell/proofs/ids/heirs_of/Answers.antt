use Rattle.std.proofs.Common.{length, map, arith, sym, subst, ◌∙◌}
use Rattle.std.proofs.lemmas.List.{length-map, take_all}
use Rattle.std.proofs.lemmas.Simd.{map-map}
use Rattle.widl_idl.specs.declared.interface.Iface.{Iface}
use Rattle.widl_idl.specs.DefinitionTerms.{IfaceTerm, iface_term}
use Rattle.widl_spell.specs.Ready.{AreHeirs}
use Rattle.widl_spell.proofs.ids.heirs_of.Goals as goal

pub returns : goal.returns
returns c =
    let parents = map (λ (i : Iface). i.parent) c.args.ifaces.now in
    let all = take_all c.loop-number.number parents (omega (arith, length-map c.args.ifaces.now (λ (i : Iface). i.parent), c.loop-number-test.false)) in
    subst (λ ps. AreHeirs ps c.loop-number.heirs.items (length c.args.ifaces.now)) (all ∙ sym (map-map (λ (i : IfaceTerm). i.parent) iface_term c.args.ifaces.now)) c.loop-number.invariant
