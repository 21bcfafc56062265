-- For proofs alone. The steps blocks of a script by the names of what they are for, and by callees.
use Rattle.std.specs.Prelude.{◌≡◌, ℕ, Bool, ◌&&◌, bytes_eq, nat_eq, nat_lt, List, [], length, slice_get, Option, None, Some, IsSome, option_map, unwrap_or, if◌then◌else◌}
use Rattle.std.specs.Map.{lookup}
use Rattle.std.specs.Option.{option_or}
use Rattle.indexmap.specs.IndexMap.{IndexMap, get_by}
use Rattle.widl_idl.specs.declared.callee.Callee.{Callee}
use Rattle.widl_idl.specs.DefinitionTerms.{DefsTerm, OpNameTerm, SpaceTerm}
use Rattle.widl_script_tree.specs.declared.row.Row.{Row}
use Rattle.widl_script_tree.specs.declared.steps.StepLine.{StepLine}
use Rattle.widl_script_tree.specs.declared.steps.Target.{Target}
use Rattle.widl_script_tree.specs.Tables.{CalleeOverload, Tables, lines_of, same_overload, statements_tree, steps_statement}
use Rattle.widl_script_tree.specs.Trees.{Text, StatementTree, StatementTrees, StepsT, no_statements, then_more}
use Rattle.widl_script_rules.specs.declared.operation_target.OperationTarget.{OperationTarget}
use Rattle.widl_script.specs.Scripts.{callee_of, lines_of_first}
use Rattle.widl_script_rules.specs.Targets.{is_target_of}

-- 1. Blocks by the texts of their targets

-- this overload is named by the target
abbrev pub is_named : Text → Text → ℕ → OperationTarget → Bool
is_named owner name overload target = bytes_eq owner target.owner.now && (bytes_eq name target.name.now && nat_eq overload target.overload)

-- the number of the block for an overload
abbrev pub block_for : {S : Type 0} → IndexMap OperationTarget ℕ S → Text → Text → ℕ → Option ℕ
block_for blocks owner name overload = get_by (is_named owner name overload) blocks

-- the lines of a statement, if it is a block for what is asked for
abbrev pub lines_asked : (Target → Bool) → StatementTree → Option (List StepLine)
lines_asked is_asked (StepsT target lines) = if is_asked target then Some lines else None
lines_asked is_asked s = None

-- the lines of a block by its number, if it is for what is asked for
abbrev pub lines_if : Tables → (Target → Bool) → Option ℕ → Option (List StepLine)
lines_if t is_asked None = None
lines_if t is_asked (Some number) = lines_asked is_asked (steps_statement (slice_get t.blocks number))

-- the lines of the first block for what is asked for
abbrev pub first_lines : (Target → Bool) → StatementTrees → Option (List StepLine)
first_lines is_asked no_statements = None
first_lines is_asked (then_more s more) = option_or (lines_asked is_asked s) (first_lines is_asked more)

-- the lines of a block by its number
abbrev pub lines_at : Tables → ℕ → List StepLine
lines_at t number = unwrap_or (lines_of t (Some number)) []

-- the lines of the block for an overload
abbrev pub lines_for : {S : Type 0} → Tables → IndexMap OperationTarget ℕ S → SpaceTerm → OpNameTerm → ℕ → Option (List StepLine)
lines_for t blocks space o overload = option_map (lines_at t) (block_for blocks space.name o.name overload)

-- 2. Blocks by callees

-- the number of the block for a callee's overload
abbrev pub target_at : List (CalleeOverload × ℕ) → Callee → ℕ → Option ℕ
target_at targets callee overload = lookup (same_overload (callee, Some overload)) targets

-- that for an overload that an operation has
abbrev pub block_of : {S : Type 0} → IndexMap OperationTarget ℕ S → Text → Option OpNameTerm → ℕ → Option ℕ
block_of blocks owner None overload = None
block_of blocks owner (Some o) overload = if nat_lt overload (length o.sigs) then block_for blocks owner o.name overload else None

-- that for an overload of an operation that a namespace has
abbrev pub block_in : {S : Type 0} → IndexMap OperationTarget ℕ S → Option SpaceTerm → ℕ → ℕ → Option ℕ
block_in blocks None number overload = None
block_in blocks (Some space) number overload = block_of blocks space.name (slice_get space.members.ops number) overload

-- each overload of the list is told the first block for it
abbrev pub AreTargets : DefsTerm → Tables → Row → List (CalleeOverload × ℕ) → Type 0
AreTargets list t statements targets = (n m k : ℕ) (space : SpaceTerm) (o : OpNameTerm) → slice_get list.spaces n ≡ Some space → slice_get space.members.ops m ≡ Some o → IsSome (slice_get o.sigs k) →
    unwrap_or (lines_of t (target_at targets (callee_of n m) k)) [] ≡ lines_of_first (is_target_of space o k) (statements_tree t statements)
