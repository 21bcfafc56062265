use Rattle.std.proofs.Common.{◌≡◌, ℕ, None, if◌then◌else◌, map, nat_lt, slice_get}
use Rattle.std.specs.Option.{option_or}
use Rattle.widl_idl.specs.DefinitionTerms.{space_term}
use Rattle.widl_script.specs.CalleeBlocks.{block_in, target_at}
use Rattle.widl_script.specs.Scripts.{callee_of}
use Rattle.widl_script.proofs.callee_blocks.targets_of.Given as goal

abbrev pub invariant-spaces : goal.invariant-spaces
invariant-spaces l = (n m k : ℕ) → target_at l.targets.entries (callee_of n m) k ≡ option_or (if nat_lt n l.number then block_in l.blocks (slice_get (map space_term l.spaces) n) m k else None) None
