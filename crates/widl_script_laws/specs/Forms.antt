-- The forms of a script's lines: what a line says that stands outside of a steps block, and what one says in it.
-- Source: this program's own.
use Rattle.std.specs.Prelude.{List}
use Rattle.widl_lines.specs.declared.grammar.Rule.{Rule}
use Rattle.widl_predictive.specs.Grammar.{Sentence}
use Rattle.widl_lines.specs.Grammar.{grammar}
use Rattle.widl_lines.specs.Breaks.{terminals_of}
use Rattle.widl_lines.specs.Words.{Lexeme}
use Rattle.widl_script_tree.specs.declared.steps.Target.{Target}
use Rattle.widl_script_tree.specs.declared.steps.StepLine.{StepLine}
use Rattle.widl_script_tree.specs.Trees.{Text, ExpressionTree, StatementTree}
use Rattle.widl_script_words.specs.Signs.{Sign, SpellsLine}
use Rattle.widl_script_words.specs.SpelledStatements.{statement_signs, try_signs, catch_signs, if_signs, else_signs, function_signs, steps_signs, end_signs}
use Rattle.widl_script_words.specs.SpelledSteps.{step_signs}

-- a line that opens, turns or closes a block wherever it stands. Whether it may stand there other rules say
pub data BlockForm : List Sign → Type 0 where
  catches : (text : Text) → BlockForm (catch_signs text)
  turns : BlockForm else_signs
  begins : (text : Text) (params : List Text) → BlockForm (function_signs text params)
  says : (target : Target) → BlockForm (steps_signs target)
  ends : BlockForm end_signs

-- a line outside of steps blocks
pub data LineForm : List Sign → Type 0 where
  states : (s : StatementTree) → LineForm (statement_signs s)
  tries : LineForm try_signs
  tests : (left right : ExpressionTree) → LineForm (if_signs left right)
  bounds : {x : List Sign} → BlockForm x → LineForm x

-- a line of a steps block
pub data StepForm : List Sign → Type 0 where
  steps : (step : StepLine) → StepForm (step_signs step)
  bounds : {x : List Sign} → BlockForm x → StepForm x

-- whatever words a form has are a sentence of the rule
abbrev pub AreSentences : (List Sign → Type 0) → Rule → Type 0
AreSentences IsForm rule = (x : List Sign) (words : List Lexeme) → IsForm x → SpellsLine x words → Sentence grammar rule (terminals_of words)
