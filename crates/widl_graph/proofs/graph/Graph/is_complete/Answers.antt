use Rattle.std.proofs.Common.{◌≡◌, inl, inr, arith, sym, subst, refl}
use Rattle.std.specs.List.{Contains}
use Rattle.std.proofs.lemmas.Bool.{cases_lt, false≢true}
use Rattle.widl_graph.specs.Reaching.{Step}
use Rattle.widl_graph.proofs.Complete.{from_each, to_each, step_within}
use Rattle.widl_graph.proofs.graph.Graph.is_complete.Goals as goal

pub returns-then-not-all_below : goal.returns-then-not-all_below
returns-then-not-all_below c = (
  λ h. absurd (false≢true h),
  λ all. c.if-not-all_below.ensures.1 (to_each c.successors.result.now c.len.result (λ y s. let l = all.below c.loop-node.node y (subst (λ xs. Contains xs y) c.successors.ensures s) in omega (arith, l, c.len.ensures))),
)

pub loop-node-preserved : goal.loop-node-preserved
loop-node-preserved c = λ x y l s. elim (cases_lt x c.loop-node.node) [
  | inl k ↦ c.loop-node.invariant x y k s
  | inr k ↦
      let here : x ≡ c.loop-node.node = omega arith in
      let at = subst (λ xs. Contains xs y) (sym c.successors.ensures) (subst (λ z. Step c.args.self.now z y) here s) in
      let below = from_each c.successors.result.now c.len.result y (c.if-not-all_below.ensures.0 refl) at in
      omega (arith, below, c.len.ensures)
]

pub returns : goal.returns
returns c = (λ h. record { below = λ x y s. c.loop-node.invariant x y (let l = step_within c.args.self.now x y s in omega (arith, l)) s }, λ all. refl)
