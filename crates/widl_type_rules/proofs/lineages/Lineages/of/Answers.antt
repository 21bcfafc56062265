use Rattle.std.proofs.Common.{map, ap, subst, sym, ◌∙◌}
use Rattle.std.proofs.lemmas.Simd.{map-map}
use Rattle.widl_graph.specs.Reaching.{IsForest}
use Rattle.widl_idl.specs.declared.interface.Iface.{Iface}
use Rattle.widl_graph.specs.Spans.{AreSpans, parent_graph}
use Rattle.widl_idl.specs.DefinitionTerms.{IfaceTerm, defs_term, iface_term}
use Rattle.widl_type_rules.proofs.RelatedSpans.{parents_graph, tell_related}
use Rattle.widl_type_rules.proofs.lineages.Lineages.of.Goals as goal

pub of-requires : goal.of-requires
of-requires c = subst IsForest (sym (ap parent_graph (c.as_slice-2.ensures.value ∙ c.in_ok-parents.ensures ∙ ap (map (λ (i : Iface). i.parent)) c.as_slice.ensures ∙ sym (map-map (λ (i : IfaceTerm). i.parent) iface_term c.args.defs.now.ifaces)) ∙ parents_graph (defs_term c.args.defs.now).ifaces)) c.requires

pub returns : goal.returns
returns c =
    let parents = c.as_slice-2.ensures.value ∙ c.in_ok-parents.ensures ∙ ap (map (λ (i : Iface). i.parent)) c.as_slice.ensures ∙ sym (map-map (λ (i : IfaceTerm). i.parent) iface_term c.args.defs.now.ifaces) in
    let found = c.in_ok-spans.spans in
    tell_related (defs_term c.args.defs.now).ifaces found.by_node.items found.order.items c.requires (subst (λ all. AreSpans all found.by_node.items found.order.items) parents c.in_ok-spans.ensures.spans) c.in_ok-spans.ensures.whole
