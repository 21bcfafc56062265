-- Whether the successors are nodes.
use Rattle.std.proofs.Common.{◌≡◌, ℕ, ◌<◌, zero, suc, List, [], ◌∷◌, length, get_or, Some, ap, ◌∙◌, arith}
use Rattle.std.specs.List.{Contains, EachIndex}
use Rattle.widl_graph.specs.Reaching.{Step}
use Rattle.std.proofs.lemmas.Option.{slice_get-get_or, get_or_from_slice_get}

-- each number is below the count, by its place and by what the list contains
pub from_each : (xs : List ℕ) (count y : ℕ) → EachIndex xs (λ k. get_or xs k 0 < count) → Contains xs y → y < count
from_each xs count y each s =
    let at = slice_get-get_or xs s.0 y s.1 in
    let same : get_or xs s.0 0 ≡ y = get_or_from_slice_get xs s.0 y 0 (at ∙ ap Some s.2) in
    let l = each s.0 s.1 in
    omega (arith, same, l)

pub to_each : (xs : List ℕ) (count : ℕ) → ((y : ℕ) → Contains xs y → y < count) → EachIndex xs (λ k. get_or xs k 0 < count)
to_each xs count all k l =
    let at = slice_get-get_or xs k 0 l in
    all (get_or xs k 0) (k, l, get_or_from_slice_get xs k (get_or xs k 0) (get_or xs k 0) at)

-- a node with a successor is a node of the graph
pub step_within : (graph : List (List ℕ)) (x y : ℕ) → Step graph x y → x < length graph
step_within [] x y s = absurd (let l = s.1 in omega arith)
step_within (ys ∷ graph) zero y s = omega arith
step_within (ys ∷ graph) (suc x) y s = let l = step_within graph x y s in omega (arith, l)
