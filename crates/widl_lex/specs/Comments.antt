-- For proofs alone. Block comments that no `*/` ends.
use Rattle.std.specs.Prelude.{◌≡◌, ℕ, ◌+◌, ◌<◌, List, slice_index}

-- the text begins with `/*`
abbrev pub OpensComment : List ℕ → Type 0
OpensComment text = (slice_index text 0 ≡ 47) × (slice_index text 1 ≡ 42)

-- behind the text's first byte stands no `*/`
abbrev pub NeverCloses : List ℕ → Type 0
NeverCloses text = (i : ℕ) → 0 < i → slice_index text i ≡ 42 → slice_index text (i + 1) ≡ 47 → ⊥
