-- For proofs alone. What code has read of step lines and targets.
use Rattle.std.specs.Prelude.{◌≡◌, ℕ, true, false, Bool, List, [], drop}
use Rattle.widl_idl.specs.declared.literal.Literal.{Literal}
use Rattle.widl_value.specs.declared.value.Value.{Value}
use Rattle.widl_lines.specs.declared.grammar.Rule.TheVariants as rule
use Rattle.widl_lines.specs.declared.grammar.Terminal.{Terminal}
use Rattle.widl_lines.specs.declared.grammar.Terminal.TheVariants as terminal
use Rattle.widl_lines.specs.Words.{Lexeme}
use Rattle.widl_script_tree.specs.declared.steps.Target.{Target}
use Rattle.widl_script_tree.specs.declared.steps.Target.TheVariants as target
use Rattle.widl_script_tree.specs.Trees.{Text}
use Rattle.widl_script_words.specs.declared.block_words.BlockWord.{BlockWord}
use Rattle.widl_script_words.specs.declared.block_words.BlockWord.TheVariants as block
use Rattle.widl_script_words.specs.Signs.{word}
use Rattle.widl_script_words.specs.SpelledSteps.{literal_signs, value_signs}
use Rattle.widl_script_words.specs.SpelledTargets.{overload_signs, owner_of, part_signs}
use Rattle.widl_script_words.specs.Reading.{part, Reads, IfAhead}

-- a constant of one word that says all, in a literal
abbrev pub is_plain_literal : Terminal → Bool
is_plain_literal terminal.Undefined = true
is_plain_literal terminal.Null = true
is_plain_literal terminal.True = true
is_plain_literal terminal.False = true
is_plain_literal _ = false

abbrev pub IsPlainLiteral : Terminal → Literal → Type 0
IsPlainLiteral t l = (is_plain_literal t ≡ true) × (literal_signs l ≡ word t)

-- the same of what is thrown
abbrev pub is_plain_value : Terminal → Bool
is_plain_value terminal.Nan = true
is_plain_value terminal.Infinity = true
is_plain_value terminal.MinusInfinity = true
is_plain_value t = is_plain_literal t

abbrev pub IsPlainValue : Terminal → Value → Type 0
IsPlainValue t v = (is_plain_value t ≡ true) × (value_signs v ≡ word t)

-- a step line begins with the word
abbrev pub is_step_word : Terminal → Bool
is_step_word terminal.Return = true
is_step_word terminal.Slot = true
is_step_word terminal.Append = true
is_step_word terminal.Clear = true
is_step_word terminal.Throw = true
is_step_word terminal.Invoke = true
is_step_word _ = false

-- the first line of a block, its `catch` or `else`, or its `end` begins with the word
abbrev pub is_block_word : Terminal → Bool
is_block_word terminal.Function = true
is_block_word terminal.Steps = true
is_block_word terminal.Try = true
is_block_word terminal.Catch = true
is_block_word terminal.If = true
is_block_word terminal.Else = true
is_block_word terminal.End = true
is_block_word _ = false

-- a line of a block begins with this word
abbrev pub block_terminal : BlockWord → Terminal
block_terminal block.Try = terminal.Try
block_terminal block.Catch = terminal.Catch
block_terminal block.If = terminal.If
block_terminal block.Else = terminal.Else
block_terminal block.Function = terminal.Function
block_terminal block.Steps = terminal.Steps
block_terminal block.End = terminal.End

-- the word ahead was taken by its text
pub record IsTextAhead (text : Text) (from to : List Lexeme) : Type 0 where
  pub held : IfAhead from (λ w. text ≡ w.text)
  pub rest : to ≡ drop 1 from

-- what was read behind the dot is the part of this owner
pub record HoldsPart (owner : Text) (t : Target) (from to : List Lexeme) : Type 0 where
  pub owner_is : owner_of t ≡ owner
  pub reads : Reads (part rule.TargetRest) [] (part_signs t) from to

-- the overload of an operation was read
pub record HoldsOperation (owner text : Text) (fixed : Bool) (t : Target) (from to : List Lexeme) : Type 0 where
  pub overload : ℕ
  pub is : t ≡ target.Operation owner text fixed overload
  pub reads : Reads (part rule.OverloadNumber) [] (overload_signs overload) from to
