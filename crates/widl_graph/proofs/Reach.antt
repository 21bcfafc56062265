-- Steps and what they lead to.
use Rattle.std.proofs.Common.{◌≡◌, ◌⊎◌, inl, inr, ℕ, List, slice_get, Some, refl, sym, ap, ◌∙◌, subst}
use Rattle.std.proofs.lemmas.Option.{slice_get_within, get_or_from_slice_get, slice_get-get_or}
use Rattle.widl_graph.specs.Reaching.{Step, Reaches, ReachesItself, one, more, successors_of}

-- the same node, or one that is reached
abbrev pub Leads : List (List ℕ) → ℕ → ℕ → Type 0
Leads graph x y = (x ≡ y) ⊎ Reaches graph x y

pub step_at : (graph : List (List ℕ)) (x y e : ℕ) → slice_get (successors_of graph x) e ≡ Some y → Step graph x y
step_at graph x y e h = (e, slice_get_within (successors_of graph x) e y h, get_or_from_slice_get (successors_of graph x) e y y h)

pub at_step : (graph : List (List ℕ)) (x y : ℕ) → Step graph x y → (e : ℕ) × (slice_get (successors_of graph x) e ≡ Some y)
at_step graph x y s = (s.0, slice_get-get_or (successors_of graph x) s.0 y s.1 ∙ ap Some s.2)

pub joined : {graph : List (List ℕ)} {x y z : ℕ} → Reaches graph x y → Reaches graph y z → Reaches graph x z
joined (one s) q = more s q
joined (more s p) q = more s (joined p q)

pub after_step : {graph : List (List ℕ)} {x y z : ℕ} → Reaches graph x y → Step graph y z → Reaches graph x z
after_step p s = joined p (one s)

pub then_step : (graph : List (List ℕ)) (x y z : ℕ) → Leads graph x y → Step graph y z → Reaches graph x z
then_step graph x y z (inl e) s = one (subst (λ n. Step graph n z) (sym e) s)
then_step graph x y z (inr p) s = after_step p s

pub reaches_then : (graph : List (List ℕ)) (x y z : ℕ) → Reaches graph x y → Leads graph y z → Reaches graph x z
reaches_then graph x y z p (inl e) = subst (λ n. Reaches graph x n) e p
reaches_then graph x y z p (inr q) = joined p q

-- a way begins with a step
pub first_step : {graph : List (List ℕ)} {x z : ℕ} → Reaches graph x z → (y : ℕ) × Step graph x y × ((y ≡ z) ⊎ Reaches graph y z)
first_step (one {y = y} s) = (y, s, inl refl)
first_step (more {y = y} s r) = (y, s, inr r)

-- what reaches itself leads to something that does
pub cyclic_step : (graph : List (List ℕ)) (x : ℕ) → ReachesItself graph x → (y : ℕ) × Step graph x y × ReachesItself graph y
cyclic_step graph x r = by_first (first_step r)
  where
    by_first : (y : ℕ) × Step graph x y × ((y ≡ x) ⊎ Reaches graph y x) → (y : ℕ) × Step graph x y × ReachesItself graph y
    by_first h = (h.0, h.1, elim h.2 [ inl e ↦ subst (λ n. Reaches graph n n) (sym e) r | inr back ↦ after_step back h.1 ])
