-- For proofs alone. Bindings of which the first few have no index.
use Rattle.std.specs.Prelude.{◌≡◌, ℕ, zero, suc, ◌<◌, List, [], ◌∷◌, length, ⊤, true, false, nat_eq, slice_index_or}
use Rattle.widl_value.specs.declared.value.Value.{Value}
use Rattle.widl_engine.specs.declared.bindings.FurtherBindings.{FurtherBindings}
use Rattle.widl_engine.specs.declared.bindings.FurtherBindings.TheVariants.{Nothing, Indexed}

-- the bindings with an index
abbrev pub more_in : FurtherBindings → List (ℕ × Value)
more_in Nothing = []
more_in (Indexed bound) = bound.value

-- none of the first so many is that of the name
abbrev pub NoneBefore : ℕ → List (ℕ × Value) → ℕ → Type 0
NoneBefore name bound zero = ⊤
NoneBefore name [] (suc count) = ⊤
NoneBefore name (b ∷ bound) (suc count) = (nat_eq name b.0 ≡ false) × NoneBefore name bound count

-- the first binding of the name has this place
abbrev pub IsBoundAt : ℕ → List (ℕ × Value) → ℕ → Type 0
IsBoundAt name bound place = (place < length bound) × NoneBefore name bound place × ((d : ℕ × Value) → nat_eq name (slice_index_or bound place d).0 ≡ true)
