use Rattle.std.proofs.Common.{sym, subst}
use Rattle.std.proofs.lemmas.Result.{on_ok_weaker}
use Rattle.widl_graph.specs.Children.{AreLeft}
use Rattle.widl_graph.proofs.ChildrenTaken.{left_visited, visited_kept, visited_there}
use Rattle.widl_graph.proofs.span_walk.SpanWalk.visit_all.Goals as goal

pub finish-requires : goal.finish-requires
finish-requires c =
    let old = c.args.self.now in
    let now = c.enter.new.self in
    record {
      visits = c.in_ok-enter.ensures.walk;
      left = subst (AreLeft c.args.parents.now now.order.items now.path.items) (sym c.in_ok-enter.ensures.children) (left_visited c.args.parents.now old.order.items old.path.items old.children now.order.items now.path.items c.args.root c.in_ok-enter.ensures.visited c.requires.under_way.left);
    }

pub returns-clause-kept : goal.returns-clause-kept
returns-clause-kept c = on_ok_weaker c.finish.result (λ kept n h. kept n (visited_kept c.args.self.now.order.items c.args.self.now.path.items c.enter.new.self.order.items c.enter.new.self.path.items c.args.root n c.in_ok-enter.ensures.visited h)) c.finish.ensures.kept

pub returns-clause-root : goal.returns-clause-root
returns-clause-root c = on_ok_weaker c.finish.result (λ kept. kept c.args.root (visited_there c.args.self.now.order.items c.args.self.now.path.items c.enter.new.self.order.items c.enter.new.self.path.items c.args.root c.in_ok-enter.ensures.visited)) c.finish.ensures.kept
