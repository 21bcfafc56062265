use Rattle.std.proofs.Common.{◌≡◌, ◌-◌, length, rules, arith, refl, subst}
use Rattle.widl_graph.specs.Search.{IsClosing}
use Rattle.widl_graph.proofs.Closing.{closed}
use Rattle.widl_graph.proofs.Tops.{node_within, some_top, with_lists}
use Rattle.widl_graph.proofs.search.Search.close_group.Goals as goal

pub closing_mark-mark-requires-clause-node : goal.closing_mark-mark-requires-clause-node
closing_mark-mark-requires-clause-node c = node_within _ _ _ _ _ _ c.requires.under_way c.args.base

pub returns-clause-under_way : goal.returns-clause-under_way
returns-clause-under_way c =
    let rank : c.len.result ≡ length c.args.self.now.order.items = search rules in
    let path : c.args.self.now.path.len ≡ length c.args.self.now.path.items = search rules in
    let groups : c.args.self.now.groups.len ≡ length c.args.self.now.groups.items = search rules in
    let some_path = some_top c.args.self.now.path.items c.args.base c.requires.top in
    let some_groups = some_top c.args.self.now.groups.items c.args.base c.requires.last in
    let closing = subst (λ r. IsClosing c.args.graph.now c.args.self.now.visits.items c.args.base r c.closing_mark-mark.result) rank c.closing_mark-mark.ensures in
    let now = closed _ _ _ _ _ _ _ _ c.args.base (c.args.self.now.path.len - 1) (c.args.self.now.groups.len - 1) c.closing_mark-mark.result c.requires.under_way c.requires.top (omega (arith, path, some_path)) c.requires.last (omega (arith, groups, some_groups)) c.requires.finished closing c.in_ok-close_visits.ensures in
    with_lists _ _ _ _ _ _ now _ _ _ _ _ refl refl c.truncate.ensures.items c.pop-2.ensures.rest c.pop.ensures.rest
