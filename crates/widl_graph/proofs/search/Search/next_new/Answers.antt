use Rattle.std.proofs.Common.{inl, inr, ◌<◌, ◌+◌, length, arith, ap, sym, refl, ◌∙◌, subst, slice_get}
use Rattle.std.proofs.lemmas.Bool.{cases_lt, false≢true}
use Rattle.std.proofs.lemmas.Option.{none-some}
use Rattle.widl_graph.specs.declared.search.Visit.{Visit}
use Rattle.widl_graph.specs.Reaching.{successors_of}
use Rattle.widl_graph.specs.Search.{top_of, left_of}
use Rattle.widl_graph.proofs.Gets.{get_some}
use Rattle.widl_graph.proofs.Passing.{passed, less_left}
use Rattle.widl_graph.proofs.Reach.{step_at}
use Rattle.widl_graph.proofs.Tops.{top_visit, node_within, with_lists}
use Rattle.widl_graph.proofs.search.Search.next_new.Goals as goal

pub successor-requires-clause-node : goal.successor-requires-clause-node
successor-requires-clause-node c = λ v h. node_within _ _ _ _ _ _ c.loop-target.invariant.0 c.args.place v h

pub is_new-requires : goal.is_new-requires
is_new-requires c =
    let u = c.loop-target.invariant.0 in
    let h = top_visit _ _ _ _ _ _ u c.args.place (ap top_of c.loop-target.invariant.2 ∙ c.requires.top) in
    let s = step_at c.args.graph.now h.0.node c.in-Some.target h.0.next (sym (c.in-Some.ensures.value h.0 h.1)) in
    let l = c.requires.nodes.below h.0.node c.in-Some.target s in
    omega (arith, l, u.size)

pub returns-then-is_new-clause-found : goal.returns-then-is_new-clause-found
returns-then-is_new-clause-found c = (c.if-is_new.ensures.0 refl, λ v h. step_at c.args.graph.now v.node c.in-Some.target v.next (sym (c.in-Some.ensures.value v h)))

pub pass-requires-clause-target : goal.pass-requires-clause-target
pass-requires-clause-target c =
    let u = c.loop-target.invariant.0 in
    let h = top_visit _ _ _ _ _ _ u c.args.place (ap top_of c.loop-target.invariant.2 ∙ c.requires.top) in
    let s = step_at c.args.graph.now h.0.node c.in-Some.target h.0.next (sym (c.in-Some.ensures.value h.0 h.1)) in
    let l = c.requires.nodes.below h.0.node c.in-Some.target s in
    omega (arith, l, u.size)

pub loop-target-smaller : goal.loop-target-smaller
loop-target-smaller c =
    let u = c.loop-target.invariant.0 in
    let t = ap top_of c.loop-target.invariant.2 ∙ c.requires.top in
    let h = top_visit _ _ _ _ _ _ u c.args.place t in
    let new : Visit = record { node = h.0.node; next = h.0.next + 1 } in
    subst (λ vs. left_of c.args.graph.now (slice_get vs c.args.place) < left_of c.args.graph.now (slice_get c.loop-target.self.visits.items c.args.place)) (sym (c.pass.ensures.visits h.0 h.1))
    (less_left _ _ _ _ _ _ c.args.place c.in-Some.target h.0 new u h.1 t (sym (c.in-Some.ensures.value h.0 h.1)) refl refl)

pub loop-target-preserved : goal.loop-target-preserved
loop-target-preserved c =
    let u = c.loop-target.invariant.0 in
    let t = ap top_of c.loop-target.invariant.2 ∙ c.requires.top in
    let h = top_visit _ _ _ _ _ _ u c.args.place t in
    let new : Visit = record { node = h.0.node; next = h.0.next + 1 } in
    let is = sym (c.in-Some.ensures.value h.0 h.1) in
    let l = c.requires.nodes.below h.0.node c.in-Some.target (step_at c.args.graph.now h.0.node c.in-Some.target h.0.next is) in
    let p = passed _ _ _ _ _ _ c.args.place c.in-Some.target h.0 new u h.1 t is refl refl c.pass.new.self.groups.items (omega (arith, l, u.size)) (λ e. false≢true (c.if-is_new.ensures.1 e)) c.pass.ensures.groups in (
      with_lists _ _ _ _ _ _ p _ _ _ _ _ c.pass.ensures.marks c.pass.ensures.order (c.pass.ensures.visits h.0 h.1) c.pass.ensures.path refl,
      c.pass.ensures.marks ∙ c.loop-target.invariant.1,
      c.pass.ensures.path ∙ c.loop-target.invariant.2,
    )

pub returns-clause-found : goal.returns-clause-found
returns-clause-found c = λ v h. elim (cases_lt v.next (length (successors_of c.args.graph.now v.node))) [
  | inl l ↦ let s = get_some (successors_of c.args.graph.now v.node) v.next l in absurd (none-some s.0 (c.in_default.ensures.value v h ∙ s.1))
  | inr l ↦ l
]
