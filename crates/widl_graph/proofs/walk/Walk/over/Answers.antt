use Rattle.std.proofs.Common.{length, arith, refl}
use Rattle.widl_graph.proofs.Ending.{begun, is_order, stands_before, tells_cyclic}
use Rattle.widl_graph.proofs.Tops.{with_lists}
use Rattle.widl_graph.proofs.walk.Walk.over.Goals as goal

pub loop-root-init : goal.loop-root-init
loop-root-init c =
    let e = c.in_ok-search.ensures in
    let now = begun c.args.graph.now (length c.args.graph.now) refl in
    (with_lists _ _ _ _ _ _ now _ _ _ _ _ (rw c.len.ensures at e.0) e.1 e.2 e.3 e.4, e.3, λ x h. omega arith)

pub returns-clause-cyclic : goal.returns-clause-cyclic
returns-clause-cyclic c =
    let i = c.loop-root.invariant in
    rw c.in_ok-cyclic.ensures (tells_cyclic _ _ _ _ _ _ i.0 i.1 (λ x h. let l = i.2 x h in omega (arith, l)))

pub returns-clause-order : goal.returns-clause-order
returns-clause-order c =
    let i = c.loop-root.invariant in
    rw c.into_order-order.ensures (is_order _ _ _ _ _ _ i.0 i.1 (λ x h. let l = i.2 x h in omega (arith, l)))

pub returns-clause-before : goal.returns-clause-before
returns-clause-before c = λ x y n s.
    let i = c.loop-root.invariant in
    rw c.into_order-order.ensures (stands_before _ _ _ _ _ _ i.0 i.1 (λ z h. let l = i.2 z h in omega (arith, l)) x y n s)
