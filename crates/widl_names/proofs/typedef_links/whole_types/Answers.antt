use Rattle.std.proofs.Common.{◌≡◌, ℕ, ◌+◌, length, arith, sym, ap, subst, ◌∙◌}
use Rattle.std.proofs.lemmas.List.{length-map}
use Rattle.widl_graph.specs.Reaching.{AreBelow}
use Rattle.widl_graph.proofs.Building.{below_none}
use Rattle.widl_names.specs.TypedefLinks.{HasNodes}
use Rattle.widl_names.proofs.TypedefLinks.{one_node, one_successor}
use Rattle.widl_names.proofs.typedef_links.whole_types.Goals as goal
use Rattle.widl_names.proofs.typedef_links.whole_types.Goals.{in-Some+in_ok-add_successor, in_default}

pub loop-definition-init : goal.loop-definition-init
loop-definition-init c = record { below = subst (λ g. AreBelow g (length c.args.meanings.now)) (sym c.new-graph.ensures) (below_none (length c.args.meanings.now)); size = ap length c.new-graph.ensures }

pub loop-definition-preserved : goal.loop-definition-preserved
loop-definition-preserved c =
    let count = length c.args.meanings.now in
    let nodes : ℕ = c.loop-definition.definition-index + 1 in
    let added = one_node c.loop-definition.graph c.add_node.new.self count c.loop-definition.definition-index c.loop-definition.invariant c.in_ok-add_node.ensures.added in
    elim c.match-number_led_to.branch [
      | in-Some+in_ok-add_successor w ↦ one_successor c.add_node.new.self c.match-number_led_to.graph count nodes w.in-Some.number added w.in-Some.ensures (w.graph-is ∙ w.in_ok-add_successor.ensures.added)
      | in_default w ↦ subst (λ g. HasNodes g count nodes) (sym w.graph-is) added
    ]

pub returns : goal.returns
returns c =
    let count = length c.args.meanings.now in
    let size = sym (ap length c.all-definition-items.ensures) ∙ length-map c.all-definition-items.result.now (λ d. d.now) in
    let all : c.loop-definition.definition-index ≡ count = omega (arith, size) in
    subst (HasNodes c.loop-definition.graph count) all c.loop-definition.invariant
