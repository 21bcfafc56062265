use Rattle.std.proofs.Common.{arith, inl, refl, ◌∙◌, true, false, ◌≡◌, ◌<◌, ◌++◌, ◌∷◌, [], Some, length, set, subst, sym, ℕ, List}
use Rattle.widl_graph.specs.Spans.{IsWalk}
use Rattle.widl_graph.proofs.PathRooms.{room_left, seen}
use Rattle.widl_graph.proofs.SpansVisited.{entered}
use Rattle.widl_graph.proofs.span_walk.SpanWalk.enter.Goals as goal

pub returns-in_ok-push-2-clause-walk : goal.returns-in_ok-push-2-clause-walk
returns-in_ok-push-2-clause-walk c =
    let parents = c.args.parents.now in
    let walk = c.args.self.now in
    let here : c.len.result ≡ length walk.order.items = omega arith in
    let size = c.requires.walk.size in
    let below : c.args.number < length walk.spans.items = omega (arith, c.requires.below, size) in
    let new = c.is_new.ensures.0 c.if-is_new.true in
    let room = room_left walk.spans.items walk.order.items c.requires.walk.in_order c.args.number below new in
    subst (λ (place : ℕ). IsWalk parents (set walk.spans.items c.args.number (Some (record { start = place; past = length parents }))) c.push.new.self.items c.push-then-is_new.new.self.items) (sym here)
    (subst (λ (order : List ℕ). IsWalk parents (set walk.spans.items c.args.number (Some (record { start = length walk.order.items; past = length parents }))) order c.push-then-is_new.new.self.items) (sym c.in_ok-push.ensures.items)
    (subst (λ (path : List ℕ). IsWalk parents (set walk.spans.items c.args.number (Some (record { start = length walk.order.items; past = length parents }))) (walk.order.items ++ c.args.number ∷ []) path) (sym c.in_ok-push-2.ensures.items)
    (entered parents walk.spans.items walk.order.items walk.path.items c.args.number c.requires.walk (omega (arith, room, size)) below new c.requires.parent)))

pub returns-else-is_new-clause-visited : goal.returns-else-is_new-clause-visited
returns-else-is_new-clause-visited c = inl (seen c.args.self.now.spans.items c.args.self.now.order.items c.requires.walk.in_order c.args.number (λ none. let f : true ≡ false = sym (c.is_new.ensures.1 none) ∙ c.if-is_new.false in (cc)), refl, refl)
