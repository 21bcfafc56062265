-- Words are those of one tree at most.
-- Source: this program's own.
use Rattle.std.specs.Prelude.{◌≡◌, List}
use Rattle.widl_lines.specs.Words.{Lexeme}
use Rattle.widl_script_tree.specs.declared.steps.Target.{Target}
use Rattle.widl_script_tree.specs.declared.steps.StepLine.{StepLine}
use Rattle.widl_script_tree.specs.Trees.{ExpressionTree, ScriptTree}
use Rattle.widl_script_words.specs.Signs.{SpellsLine}
use Rattle.widl_script_words.specs.SpelledExpressions.{signs}
use Rattle.widl_script_words.specs.SpelledTargets.{target_signs}
use Rattle.widl_script_words.specs.SpelledSteps.{step_signs}
use Rattle.widl_script_words.specs.SpelledStatements.{Lines, IsTreeOf}

abbrev pub EachExpressionIsOne : Type 0
EachExpressionIsOne = (a b : ExpressionTree) (words : List Lexeme) → SpellsLine (signs a) words → SpellsLine (signs b) words → a ≡ b

abbrev pub EachStepIsOne : Type 0
EachStepIsOne = (a b : StepLine) (words : List Lexeme) → SpellsLine (step_signs a) words → SpellsLine (step_signs b) words → a ≡ b

abbrev pub EachScriptIsOne : Type 0
EachScriptIsOne = (a b : ScriptTree) (lines : Lines) → IsTreeOf a lines → IsTreeOf b lines → a ≡ b
