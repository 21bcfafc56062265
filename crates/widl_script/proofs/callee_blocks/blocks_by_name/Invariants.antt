use Rattle.std.proofs.Common.{◌≡◌, ℕ, ◌-◌}
use Rattle.widl_idl.specs.DefinitionTerms.{OpNameTerm, SpaceTerm}
use Rattle.widl_script_tree.specs.Tables.{statement_tree, statements_in}
use Rattle.widl_script.specs.CalleeBlocks.{first_lines, lines_for}
use Rattle.widl_script_rules.specs.Targets.{is_target_of}
use Rattle.widl_script.proofs.callee_blocks.blocks_by_name.Given as goal

abbrev pub invariant-places : goal.invariant-places
invariant-places l =
    (space : SpaceTerm) (o : OpNameTerm) (k : ℕ) → lines_for l.tables l.blocks space o k ≡ first_lines (is_target_of space o k) (statements_in (statement_tree l.tables) l.fn.statements.first (l.place - l.fn.statements.first))
