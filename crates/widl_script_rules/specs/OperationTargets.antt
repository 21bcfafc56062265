-- For proofs alone. The targets of operations, by the names that code keeps of them.
use Rattle.std.specs.Prelude.{ℕ, Bool, false, ◌&&◌, nat_eq, bytes_eq, Option, Some, None}
use Rattle.widl_script_tree.specs.Trees.{Text}
use Rattle.widl_script_rules.specs.declared.operation_target.OperationTarget.{OperationTarget}

-- the target names this overload
abbrev pub names : OperationTarget → Text → Text → ℕ → Bool
names target owner name overload = bytes_eq target.owner.now owner && (bytes_eq target.name.now name && nat_eq target.overload overload)

-- there is a target, and it names this overload
abbrev pub are_names : Option OperationTarget → Text → Text → ℕ → Bool
are_names None owner name overload = false
are_names (Some target) owner name overload = names target owner name overload
