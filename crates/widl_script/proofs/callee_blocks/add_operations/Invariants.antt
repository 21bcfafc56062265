use Rattle.std.proofs.Common.{◌≡◌, ℕ, ◌&&◌, None, if◌then◌else◌, map, nat_eq, nat_lt, slice_get}
use Rattle.std.specs.Option.{option_or}
use Rattle.widl_idl.specs.DefinitionTerms.{op_name_term}
use Rattle.widl_script.specs.CalleeBlocks.{block_of, target_at}
use Rattle.widl_script.specs.Scripts.{callee_of}
use Rattle.widl_script.proofs.callee_blocks.add_operations.Given as goal

abbrev pub invariant-each : goal.invariant-each
invariant-each l =
    (n m k : ℕ) → target_at l.targets.entries (callee_of n m) k ≡ option_or (if nat_eq l.number n && nat_lt m l.place then block_of l.blocks l.owner (slice_get (map op_name_term l.operations) m) k else None) (target_at l.initial.targets.entries (callee_of n m) k)
