use Rattle.std.proofs.Common.{◌≡◌, ◌≤◌, ◌<◌, ℕ, slice_index}
use Rattle.widl_lex.specs.Walk.{next_of}
use Rattle.widl_lex.proofs.longest.run_end.Given as goal

abbrev pub invariant-loop-place : goal.invariant-loop-place
invariant-loop-place l = (i : ℕ) → l.fn.from ≤ i → i < l.place → next_of l.state (slice_index l.text i) ≡ l.state
