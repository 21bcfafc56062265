-- How the lines of steps blocks are spelled.
-- Source: this program's own; literals are those of Web IDL ("DefaultValue" of the IDL grammar).
use Rattle.std.specs.Prelude.{ℕ, List, [], ◌∷◌, true, false}
use Rattle.widl_idl.specs.declared.literal.Literal.{Literal}
use Rattle.widl_idl.specs.declared.literal.Literal.TheVariants as literal
use Rattle.widl_value.specs.declared.value.Value.{Value}
use Rattle.widl_value.specs.declared.value.Value.TheVariants as value
use Rattle.widl_lines.specs.declared.grammar.Terminal.TheVariants as terminal
use Rattle.widl_script_tree.specs.declared.steps.Source.{Source}
use Rattle.widl_script_tree.specs.declared.steps.Source.TheVariants as source
use Rattle.widl_script_tree.specs.declared.steps.Invoke.{Invoke}
use Rattle.widl_script_tree.specs.declared.steps.StepLine.{StepLine}
use Rattle.widl_script_tree.specs.declared.steps.StepLine.TheVariants as step
use Rattle.widl_script_words.specs.Signs.{Sign, OfUnits, OfInteger, OfIndex, Nowhere, ◌⧺◌, word}
use Rattle.widl_script_words.specs.SpelledExpressions.{number_signs}
use Rattle.widl_script_words.specs.SpelledTargets.{target_name}

-- a literal of Web IDL
abbrev pub literal_signs : Literal → List Sign
literal_signs literal.Null = word terminal.Null
literal_signs literal.Undefined = word terminal.Undefined
literal_signs (literal.Bool true) = word terminal.True
literal_signs (literal.Bool false) = word terminal.False
literal_signs (literal.Int n) = OfInteger n ∷ []
literal_signs (literal.Text units) = OfUnits units ∷ []
literal_signs literal.EmptyList = word terminal.OpenBracket ⧺ word terminal.CloseBracket
literal_signs literal.EmptyDict = word terminal.OpenBrace ⧺ word terminal.CloseBrace

-- a plain value: no Symbol and no Object has words
abbrev pub value_signs : Value → List Sign
value_signs value.Undefined = word terminal.Undefined
value_signs value.Null = word terminal.Null
value_signs (value.Bool true) = word terminal.True
value_signs (value.Bool false) = word terminal.False
value_signs (value.Num n) = number_signs n
value_signs (value.Str units) = OfUnits units ∷ []
value_signs (value.Sym k) = Nowhere ∷ []
value_signs (value.Obj object) = Nowhere ∷ []

-- `arg K`, `this`, `slot A`, `literal L`
abbrev pub source_signs : Source → List Sign
source_signs (source.Arg k) = word terminal.Arg ⧺ OfIndex k ∷ []
source_signs source.This = word terminal.This
source_signs (source.Slot text) = word terminal.Slot ⧺ target_name text
source_signs (source.Literal l) = word terminal.Literal ⧺ literal_signs l

-- what a slot is set to: `arg K`, `literal L`
abbrev pub slot_source_signs : Source → List Sign
slot_source_signs source.This = Nowhere ∷ []
slot_source_signs (source.Slot text) = Nowhere ∷ []
slot_source_signs s = source_signs s

-- with a comma before each
abbrev pub more_sources : List Source → List Sign
more_sources [] = []
more_sources (s ∷ more) = word terminal.Comma ⧺ source_signs s ⧺ more_sources more

abbrev pub source_list : List Source → List Sign
source_list [] = []
source_list (s ∷ more) = source_signs s ⧺ more_sources more

-- `arg K (SRC, SRC)`
abbrev pub called_signs : Invoke → List Sign
called_signs i = word terminal.Arg ⧺ OfIndex i.arg ∷ word terminal.OpenParen ⧺ source_list i.sources ⧺ word terminal.CloseParen

-- `invoke arg K (SRC, SRC)`
abbrev pub invoke_signs : Invoke → List Sign
invoke_signs i = word terminal.Invoke ⧺ called_signs i

-- a line of a steps block
abbrev pub step_signs : StepLine → List Sign
step_signs (step.Return s) = word terminal.Return ⧺ source_signs s
step_signs (step.ReturnInvoke i) = word terminal.Return ⧺ invoke_signs i
step_signs (step.SetSlot slot s) = word terminal.Slot ⧺ target_name slot ⧺ word terminal.Equals ⧺ slot_source_signs s
step_signs (step.Append key s) = word terminal.Append ⧺ source_signs key ⧺ source_signs s
step_signs step.Clear = word terminal.Clear
step_signs (step.Throw v) = word terminal.Throw ⧺ value_signs v
step_signs (step.Invoke i) = invoke_signs i
