use Rattle.std.proofs.Common.{◌≡◌, ℕ, ◌&&◌, None, if◌then◌else◌, nat_lt}
use Rattle.std.specs.Option.{option_or}
use Rattle.widl_idl.specs.declared.callee.Callee.{Callee}
use Rattle.widl_script_tree.specs.Tables.{same_callee}
use Rattle.widl_script.specs.CalleeBlocks.{block_for, target_at}
use Rattle.widl_script.proofs.callee_blocks.add_operation.Given as goal

abbrev pub invariant-overloads : goal.invariant-overloads
invariant-overloads l =
    (other : Callee) (k : ℕ) → target_at l.targets.entries other k ≡ option_or (if same_callee l.callee other && nat_lt k l.overload then block_for l.blocks l.owner l.name k else None) (target_at l.initial.targets.entries other k)
