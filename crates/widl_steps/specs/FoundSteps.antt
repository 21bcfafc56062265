-- The lines of steps blocks as the tables of a script find them, and where they are those of its tree.
use Rattle.std.specs.Prelude.{◌≡◌, ℕ, List, [], Some, unwrap_or}
use Rattle.std.specs.Option.{option_map_or}
use Rattle.widl_idl.specs.declared.callee.Callee.{Callee}
use Rattle.widl_idl.specs.DefinitionTerms.{DefsTerm, defs_term}
use Rattle.widl_idl.specs.MergedSets.{MergedSet}
use Rattle.widl_script_tree.specs.declared.steps.StepLine.{StepLine}
use Rattle.widl_script_tree.specs.Tables.{Tables, script_tree, steps_at}
use Rattle.widl_steps.specs.Operations.{StepsOf, operation_in}
use Rattle.widl_steps.specs.StepLines.{Operation, lines_for}

-- the lines that the tables find for an overload, by its numbers
abbrev pub lines_found : Tables → Callee → ℕ → List StepLine
lines_found s callee overload = unwrap_or (steps_at s callee (Some overload)) []

-- they are asked for the operations of the list alone
abbrev pub steps_found : DefsTerm → Tables → StepsOf
steps_found list s callee overload = option_map_or (λ (o : Operation). lines_found s callee overload) (operation_in list callee.part overload callee.owner) []

-- the same over a set of files with its merged list
abbrev pub steps_over : MergedSet → Tables → StepsOf
steps_over set s = steps_found (defs_term set.defs) s

-- for each operation they are the lines of its steps block, which the tree has by its names
pub record FindsSteps (list : DefsTerm) (s : Tables) : Type 0 where
  pub lines : (callee : Callee) (overload : ℕ) (o : Operation) → operation_in list callee.part overload callee.owner ≡ Some o → lines_found s callee overload ≡ lines_for o (script_tree s).top
