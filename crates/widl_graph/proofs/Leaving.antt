-- A visit ends, and its group goes on.
use Rattle.std.proofs.Common.{◌≡◌, ◌≢◌, inl, inr, ℕ, ◌+◌, ◌-◌, ◌<◌, ◌≤◌, List, length, take, slice_get, Some, sym, ap, ◌∙◌, arith}
use Rattle.std.proofs.lemmas.Bool.{cases_lt}
use Rattle.std.proofs.lemmas.Option.{slice_get_within}
use Rattle.widl_graph.specs.declared.search.Mark.{Mark}
use Rattle.widl_graph.specs.declared.search.Visit.{Visit}
use Rattle.widl_graph.specs.Reaching.{successors_of}
use Rattle.widl_graph.specs.Search.{Has, IsUnderWay, top_of}
use Rattle.widl_graph.proofs.Gets.{get_some}
use Rattle.widl_graph.proofs.Tops.{group_most, front_below, front_kept, front_rising}

module _ (graph : List (List ℕ)) (marks : List Mark) (order : List ℕ) (visits : List Visit) (path groups : List ℕ) (place n : ℕ) (u : IsUnderWay graph marks order visits path groups) (top : top_of path ≡ Some place) (size : n + 1 ≡ length path) (finished : (v : Visit) → slice_get visits place ≡ Some v → length (successors_of graph v.node) ≤ v.next) (goes_on : top_of groups ≢ Some place) where
  -- no group begins at the place
  no_group : (i b : ℕ) → slice_get groups i ≡ Some b → b ≢ place
  no_group i b h e = elim (cases_lt i (length groups - 1)) [
    | inl l ↦
        let w = slice_get_within groups i b h in
        let last = get_some groups (length groups - 1) (omega (arith, w)) in
        let rises = u.parts.rising i (length groups - 1) b last.0 l h last.1 in
        let most = group_most graph visits path groups place u.way u.parts top (length groups - 1) last.0 last.1 in
        absurd (omega (arith, rises, most, e))
    | inr l ↦
        let w = slice_get_within groups i b h in
        let at : length groups - 1 ≡ i = omega (arith, w, l) in
        goes_on (ap (slice_get groups) at ∙ h ∙ ap Some e)
  ]

  pub left : IsUnderWay graph marks order visits (take n path) groups
  left = record {
    size = u.size;
    counted = u.counted;
    settled = u.settled;
    open_nodes = u.open_nodes;
    way = record { rising = front_rising path place n u.way.rising top size; within = λ i p h. u.way.within i p (front_below path place n u.way.rising top size i p h).0; rest = rest_now };
    parts = record { rising = u.parts.rising; begins = λ i b h. front_kept path place n u.way.rising top size b (no_group i b h) (u.parts.begins i b h); covered = u.parts.covered };
    links = u.links;
  }
    where
      rest_now : (p : ℕ) (v : Visit) → slice_get visits p ≡ Some v → v.next < length (successors_of graph v.node) → Has (take n path) p
      rest_now p v h l = front_kept path place n u.way.rising top size p (λ e. let f = finished v (ap (slice_get visits) (sym e) ∙ h) in omega (arith, f, l)) (u.way.rest p v h l)
