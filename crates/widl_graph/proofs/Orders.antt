-- Places in an order of nodes, for those who go through one.
use Rattle.std.proofs.Common.{◌≡◌, ℕ, ◌<◌, List, slice_get, Some, subst}
use Rattle.widl_graph.specs.Order.{IsOrder, StandsBefore}

-- what stands before the node at a place has an earlier place
pub earlier_place : (count : ℕ) (order : List ℕ) (i x y : ℕ) → IsOrder count order → slice_get order i ≡ Some x → StandsBefore order y x → (j : ℕ) × (j < i) × (slice_get order j ≡ Some y)
earlier_place count order i x y o h b = (b.earlier, subst (λ k. b.earlier < k) (o.once b.later i x b.second h) b.before, b.first)
