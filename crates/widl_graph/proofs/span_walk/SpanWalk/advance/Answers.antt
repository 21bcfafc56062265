use Rattle.std.proofs.Common.{◌-◌, length, vec_items, arith, ap, sym, subst, ◌∙◌}
use Rattle.std.specs.List.{sum_by}
use Rattle.std.proofs.lemmas.List.{length_push}
use Rattle.std.proofs.lemmas.Result.{on_ok_weaker}
use Rattle.widl_graph.proofs.ParentSteps.{child_within}
use Rattle.widl_graph.specs.Children.{AreLeft}
use Rattle.widl_graph.proofs.PathRooms.{path_below}
use Rattle.widl_graph.proofs.ChildrenTaken.{both_ok, left_behind, left_taken, left_visited, taken_child, taken_fewer, visited_kept, visited_path, visited_there}
use Rattle.widl_graph.proofs.span_walk.SpanWalk.advance.Goals as goal

pub take-requires : goal.take-requires
take-requires c =
    let walk = c.args.self.now in
    let under_way = c.requires.under_way in
    let below = path_below c.args.parents.now walk.spans.items walk.path.items (length walk.order.items) (length walk.path.items - 1) c.args.last under_way.visits.on_path c.requires.last in
    omega (arith, below, under_way.visits.size, under_way.left.size)

pub enter-requires-clause-below : goal.enter-requires-clause-below
enter-requires-clause-below c =
    let own = c.requires.under_way.left.own c.args.last c.in-Some.child (taken_child c.args.self.now.children c.take.new.self c.args.last c.in-Some.child c.in-Some.ensures) in
    child_within (λ p. p) c.args.parents.now c.in-Some.child c.args.last own

pub enter-requires-clause-parent : goal.enter-requires-clause-parent
enter-requires-clause-parent c =
    c.requires.under_way.left.own c.args.last c.in-Some.child (taken_child c.args.self.now.children c.take.new.self c.args.last c.in-Some.child c.in-Some.ensures) ∙ sym c.requires.last

pub returns-in-Some-clause-under_way : goal.returns-in-Some-clause-under_way
returns-in-Some-clause-under_way c =
    let parents = c.args.parents.now in
    let old = c.args.self.now in
    let now = c.enter.new.self in
    let child = c.in-Some.child in
    let under_way = c.requires.under_way in
    let below = path_below parents old.spans.items old.path.items (length old.order.items) (length old.path.items - 1) c.args.last under_way.visits.on_path c.requires.last in
    both_ok c.enter.result
    (λ walk visited. record {
      visits = walk;
      left = subst (AreLeft parents now.order.items now.path.items) (sym c.enter.ensures.children)
          (left_taken parents now.order.items now.path.items old.children c.take.new.self c.args.last child (omega (arith, below, under_way.visits.size, under_way.left.size)) c.in-Some.ensures
          (left_visited parents old.order.items old.path.items old.children now.order.items now.path.items child visited under_way.left)
          (visited_there old.order.items old.path.items now.order.items now.path.items child visited));
    })
    c.enter.ensures.walk c.enter.ensures.visited

pub returns-in-Some-clause-kept : goal.returns-in-Some-clause-kept
returns-in-Some-clause-kept c = on_ok_weaker c.enter.result (λ v n h. visited_kept c.args.self.now.order.items c.args.self.now.path.items c.enter.new.self.order.items c.enter.new.self.path.items c.in-Some.child n v h) c.enter.ensures.visited

pub returns-in-Some-clause-less : goal.returns-in-Some-clause-less
returns-in-Some-clause-less c =
    let old = c.args.self.now in
    let now = c.enter.new.self in
    let under_way = c.requires.under_way in
    let below = path_below c.args.parents.now old.spans.items old.path.items (length old.order.items) (length old.path.items - 1) c.args.last under_way.visits.on_path c.requires.last in
    let fewer = taken_fewer old.children c.take.new.self c.args.last c.in-Some.child (omega (arith, below, under_way.visits.size, under_way.left.size)) c.in-Some.ensures in
    let same = ap (sum_by length) c.enter.ensures.children in
    on_ok_weaker c.enter.result (λ v. let path = visited_path old.order.items old.path.items now.order.items now.path.items c.in-Some.child v in omega (arith, fewer, same, path)) c.enter.ensures.visited

pub returns-in-None-clause-under_way : goal.returns-in-None-clause-under_way
returns-in-None-clause-under_way c =
    let parents = c.args.parents.now in
    let old = c.args.self.now in
    let now = c.leave.new.self in
    let path = c.leave.ensures.path c.args.last c.requires.last in
    record {
      visits = c.leave.ensures.walk;
      left = subst (AreLeft parents now.order.items now.path.items) (sym (c.leave.ensures.children ∙ c.in-None.ensures.1))
          (subst (λ order. AreLeft parents order now.path.items old.children) (sym (ap vec_items c.leave.ensures.order))
          (left_behind parents old.order.items now.path.items old.children c.args.last c.in-None.ensures.0 (subst (λ p. AreLeft parents old.order.items p old.children) path c.requires.under_way.left)));
    }

pub returns-in-None-clause-less : goal.returns-in-None-clause-less
returns-in-None-clause-less c =
    let now = c.leave.new.self in
    let shorter = ap length (c.leave.ensures.path c.args.last c.requires.last) in
    let one = length_push now.path.items c.args.last in
    let same = ap (sum_by length) (c.leave.ensures.children ∙ c.in-None.ensures.1) in
    omega (arith, shorter, one, same)
