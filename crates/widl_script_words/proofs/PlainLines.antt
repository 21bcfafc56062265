-- For proofs alone. What is known of the lines of a script that breaks no rule of form.
use Rattle.std.proofs.Common.{◌≡◌, ℕ, true, List, [], ◌∷◌, Option, Some, None, refl}
use Rattle.widl_predictive.proofs.Running.{sentence_runs}
use Rattle.widl_lines.specs.declared.blocks.Block.{Block}
use Rattle.widl_lines.specs.declared.blocks.Block.TheVariants.{Function, Steps, Try, Catch, If, Else}
use Rattle.widl_lines.specs.declared.line_break.LineBreak.{LineBreak}
use Rattle.widl_lines.specs.declared.line_break.LineRule.TheVariants.{NoBlock}
use Rattle.widl_lines.specs.Blocks.{innermost, blocks_after, change_by, start_of}
use Rattle.widl_lines.specs.Breaks.{LineBreaks, terminals_of}
use Rattle.widl_lines.specs.Grammar.{grammar, is_start}
use Rattle.widl_lines.specs.Owed.{owed}
use Rattle.widl_lines.specs.Tables.{sets}
use Rattle.widl_lines.specs.TextBreaks.{Line, TextBreak, here, later, unclosed, closed, ScriptBreak, not_utf8, in_lines, script_lines}
use Rattle.widl_lines.specs.Words.{Lexeme}
use Rattle.widl_script_words.specs.Reading.{part, Runs}

starts : (inside : Option Block) → is_start (start_of inside) ≡ true
starts None = refl
starts (Some Function) = refl
starts (Some Steps) = refl
starts (Some Try) = refl
starts (Some Catch) = refl
starts (Some If) = refl
starts (Some Else) = refl

-- the words of a line are what its rule derives, by the rows that the word ahead picks
pub line_runs : (blocks : List Block) (words : List Lexeme) → LineBreaks blocks words None → Runs (part (start_of (innermost blocks))) words
line_runs blocks words h = sentence_runs grammar sets owed (start_of (innermost blocks)) (terminals_of words) (starts (innermost blocks)) h.1.sentence

-- the line's block is there
pub has_change : (blocks : List Block) (words : List Lexeme) → LineBreaks blocks words None → change_by words blocks ≡ None → ⊥
has_change blocks words h e = h.0 (record { rule = NoBlock; word = 0 }) (refl, e)

-- a line without a break, and the lines after it
pub record Unbroken (last : ℕ) (blocks : List Block) (line : Line) (lines : List Line) : Type 0 where
  pub line_is : LineBreaks blocks line.words None
  pub lines_are : TextBreak line.number (blocks_after line.words blocks) lines None

pub unbroken : {last : ℕ} {blocks : List Block} {line : Line} {lines : List Line} → TextBreak last blocks (line ∷ lines) None → Unbroken last blocks line lines
unbroken (later h more) = record { line_is = h; lines_are = more }

pub none_open : {last : ℕ} {blocks : List Block} → TextBreak last blocks [] None → blocks ≡ []
none_open closed = refl

pub lines_unbroken : {text : List ℕ} → ScriptBreak text None → TextBreak 1 [] (script_lines text) None
lines_unbroken (in_lines utf8 h) = h
