use Rattle.std.proofs.Common.{◌≡◌, IfOk, ap, sym, subst, ◌∙◌, ◌<◌, map}
use Rattle.std.specs.List.{All}
use Rattle.widl_graph.specs.declared.spans.Span.{Span}
use Rattle.widl_idl.specs.DefinitionTerms.{iface_term}
use Rattle.widl_type_rules.specs.IndistinguishablePairs.{any_pair}
use Rattle.widl_type_rules.specs.Lineages.{touches}
use Rattle.widl_type_rules.proofs.TouchingSpans.{spans_filled, spans_related}
use Rattle.widl_type_rules.proofs.related_interfaces.any_related.Goals as goal

pub any_touch-requires : goal.any_touch-requires
any_touch-requires c = subst (All (λ (s : Span). s.start < s.past)) (sym c.in_ok-spans.ensures) (spans_filled (map iface_term c.args.ifaces.now) c.args.lineages.now.spans.items c.requires c.args.numbers.now)

pub returns : goal.returns
returns c = subst (λ b. IfOk c.any_touch.result (λ found. found ≡ b)) (ap (any_pair touches) c.in_ok-spans.ensures ∙ spans_related (map iface_term c.args.ifaces.now) c.args.lineages.now.spans.items c.requires c.args.numbers.now) c.any_touch.ensures
