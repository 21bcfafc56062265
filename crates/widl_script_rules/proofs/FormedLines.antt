-- The lines of a script without a break of form are those of the grammar, and they spell one target and one step each.
use Rattle.std.proofs.Common.{◌≡◌, ℕ, zero, suc, Bool, true, false, List, [], ◌∷◌, map, take, drop, slice_get, Some, None, refl, sym, ◌∙◌, ap, subst, if◌then◌else◌}
use Rattle.widl_lines.specs.declared.blocks.Block.{Block}
use Rattle.widl_lines.specs.declared.blocks.Block.TheVariants.{Function, Steps, Try, Catch, If, Else}
use Rattle.widl_lines.specs.declared.grammar.Rule.{Rule}
use Rattle.widl_lines.specs.declared.grammar.Rule.TheVariants as rule
use Rattle.widl_lines.specs.declared.grammar.Terminal.{Terminal}
use Rattle.widl_lines.specs.declared.grammar.Terminal.TheVariants as t
use Rattle.widl_lines.specs.Blocks.{innermost, after_change, change_of, blocks_after, first_word, start_of}
use Rattle.widl_lines.specs.TextBreaks.{Line, TextBreak}
use Rattle.widl_lines.specs.Words.{Lexeme}
use Rattle.widl_script_tree.specs.declared.steps.Target.{Target}
use Rattle.widl_script_tree.specs.declared.steps.StepLine.{StepLine}
use Rattle.widl_script_tree.specs.declared.steps.StepLine.TheVariants as step
use Rattle.widl_script_words.specs.Signs.{SpellsLine, word}
use Rattle.widl_script_words.specs.SpelledTargets.{target_signs}
use Rattle.widl_script_words.specs.SpelledStatements.{steps_signs}
use Rattle.widl_script_words.specs.SpelledSteps.{step_signs}
use Rattle.widl_script_words.specs.Reading.{Reads, Runs, part, terminal_ahead}
use Rattle.widl_script_words.specs.StepReading.{is_block_word}
use Rattle.widl_script_rules.specs.Standings.{around_after, is_in_steps, is_steps_word, opens_steps}
use Rattle.widl_script_rules.specs.Surroundings.{open_after}
use Rattle.widl_script_rules.specs.Targets.{Opens}
use Rattle.widl_script_rules.specs.FormedLines.{AreFormed, IsFormed, rule_in}
use Rattle.widl_script_words.proofs.Parts.{read_whole}
use Rattle.widl_script_words.proofs.Parts.{by_row, follow, took}
use Rattle.widl_script_words.proofs.PlainLines.{Unbroken, has_change, line_runs, unbroken}
use Rattle.widl_script_words.proofs.Undoing.{StepsFor}
use Rattle.widl_script_words.proofs.UniqueLines.{steps_tells}
use Rattle.widl_script_words.proofs.UniqueSteps.{each_step}

-- 1. The blocks that are open, and the lines that opened them

abbrev is_steps_kind : Block → Bool
is_steps_kind Steps = true
is_steps_kind kind = false

abbrev Alike : List Block → List Line → Type 0
Alike blocks around = map is_steps_kind blocks ≡ map opens_steps around

more_alike : (kind : Block) (line : Line) (blocks : List Block) (around : List Line) → is_steps_kind kind ≡ opens_steps line → Alike blocks around → Alike (kind ∷ blocks) (line ∷ around)
more_alike kind line blocks around e h = cc

-- what a line that begins with the word does to both
after : (word : Terminal) (line : Line) (blocks : List Block) (around : List Line) → first_word line.words ≡ word → (change_of word (innermost blocks) ≡ None → ⊥) → Alike blocks around →
    Alike (after_change (change_of word (innermost blocks)) blocks) (around_after word line around)
after t.Function line blocks around e some h = more_alike Function line blocks around (sym (ap is_steps_word e)) h
after t.Steps line blocks around e some h = more_alike Steps line blocks around (sym (ap is_steps_word e)) h
after t.Try line blocks around e some h = more_alike Try line blocks around (sym (ap is_steps_word e)) h
after t.If line blocks around e some h = more_alike If line blocks around (sym (ap is_steps_word e)) h
after t.Catch line [] around e some h = absurd (some refl)
after t.Catch line (Try ∷ blocks) around e some h = h
after t.Catch line (kind ∷ blocks) around e some h = absurd (some refl)
after t.Else line [] around e some h = absurd (some refl)
after t.Else line (If ∷ blocks) around e some h = h
after t.Else line (kind ∷ blocks) around e some h = absurd (some refl)
after t.End line [] around e some h = absurd (some refl)
after t.End line (Try ∷ blocks) around e some h = absurd (some refl)
after t.End line (kind ∷ blocks) [] e some h = absurd (let bad : is_steps_kind kind ∷ map is_steps_kind blocks ≡ [] = h in cc)
after t.End line (kind ∷ blocks) (opening ∷ around) e some h = cc
after word line blocks around e some h = h

same_rule : (blocks : List Block) (around : List Line) → Alike blocks around → start_of (innermost blocks) ≡ rule_in around
same_rule [] [] h = refl
same_rule [] (opening ∷ around) h = absurd (let bad : [] ≡ opens_steps opening ∷ map opens_steps around = h in cc)
same_rule (kind ∷ blocks) [] h = absurd (let bad : is_steps_kind kind ∷ map is_steps_kind blocks ≡ [] = h in cc)
same_rule (kind ∷ blocks) (opening ∷ around) h = by kind ∙ ap (λ b. if b then rule.StepLine else rule.Line) (let e : is_steps_kind kind ≡ opens_steps opening = cc in e)
  where
    by : (kind : Block) → start_of (Some kind) ≡ (if is_steps_kind kind then rule.StepLine else rule.Line)
    by Function = refl
    by Steps = refl
    by Try = refl
    by Catch = refl
    by If = refl
    by Else = refl

formed_from : (last : ℕ) (blocks : List Block) (around lines : List Line) → Alike blocks around → TextBreak last blocks lines None → (place : ℕ) (line : Line) → slice_get lines place ≡ Some line →
    IsFormed (open_after around (take place lines)) line
formed_from last blocks around [] h d place line is = cc
formed_from last blocks around (first ∷ lines) h d zero line is =
    let u : Unbroken last blocks first lines = unbroken d in
    let same : first ≡ line = cc in
    let e : Runs (part (rule_in around)) first.words = subst (λ (r : Rule). Runs (part r) first.words) (same_rule blocks around h) (line_runs blocks first.words u.line_is) in
    subst (λ (l : Line). IsFormed around l) same e
formed_from last blocks around (first ∷ lines) h d (suc place) line is =
    let u : Unbroken last blocks first lines = unbroken d in
    formed_from first.number (blocks_after first.words blocks) (around_after (first_word first.words) first around) lines (after (first_word first.words) first blocks around refl (has_change blocks first.words u.line_is) h) u.lines_are place line is

pub formed : (lines : List Line) → TextBreak 1 [] lines None → AreFormed lines
formed lines d place line is = formed_from 1 [] [] lines refl d place line is

-- 2. What was read of a line

pub begins_ahead : (words : List Lexeme) (word : Terminal) → first_word words ≡ word → (word ≡ t.Do → ⊥) → terminal_ahead words ≡ word
begins_ahead [] word e other = absurd (other (sym e))
begins_ahead (w ∷ words) word e other = e

pub target_read : (line : Line) (target : Target) (one to : List Lexeme) → first_word line.words ≡ t.Steps → one ≡ drop 1 line.words → Reads (part rule.Target) [] (target_signs target) one to → (around : List Line) → IsFormed around line → Opens line target
target_read line target one to begins next read around formed = by (is_in_steps around) formed
  where
    ahead : terminal_ahead line.words ≡ t.Steps
    ahead = begins_ahead line.words t.Steps begins (λ e. let bad : t.Steps ≡ t.Do = e in cc)

    by : (b : Bool) → Runs (part (if b then rule.StepLine else rule.Line)) line.words → Opens line target
    by true f = read_whole rule.StepLine (steps_signs target) line.words to (by_row rule.StepLine t.Steps ahead refl refl (follow (took t.Steps _ next) read)) f
    by false f = read_whole rule.Line (steps_signs target) line.words to (by_row rule.Line t.Steps ahead refl refl (follow (took t.Steps _ next) read)) f

pub step_read : (words to : List Lexeme) (step : StepLine) → Reads (part rule.StepLine) [] (step_signs step) words to → Runs (part rule.StepLine) words → SpellsLine (step_signs step) words
step_read words to step read runs = read_whole rule.StepLine (step_signs step) words to read runs

-- 3. One target, and one step

pub one_target : (line : Line) (a b : Target) → Opens line a → Opens line b → a ≡ b
one_target line a b h k = let e : Some (StepsFor a) ≡ Some (StepsFor b) = sym ((steps_tells a).tells line.words h) ∙ (steps_tells b).tells line.words k in cc

pub one_step : (words : List Lexeme) (a b : StepLine) → SpellsLine (step_signs a) words → SpellsLine (step_signs b) words → a ≡ b
one_step words a b h k = each_step a b words h k

-- a line opens a steps block by its first word
pub opens_by_word : (line : Line) (target : Target) → Opens line target → first_word line.words ≡ t.Steps
opens_by_word line target h = ap first_word h.2 ∙ h.3

-- a step line begins with no word that opens, turns or closes a block
pub steps_by_word : (words : List Lexeme) (said : StepLine) → SpellsLine (step_signs said) words → is_block_word (first_word words) ≡ false
steps_by_word words said h = by said h
  where
    first : (a : Terminal) (x : Lexeme) (next : List Lexeme) → words ≡ x ∷ next → x.terminal ≡ a → is_block_word a ≡ false → is_block_word (first_word words) ≡ false
    first a x next e f other = ap (λ ws. is_block_word (first_word ws)) e ∙ ap is_block_word f ∙ other

    by : (said : StepLine) → SpellsLine (step_signs said) words → is_block_word (first_word words) ≡ false
    by (step.Return s) h = first t.Return h.0 h.1 h.2 h.3 refl
    by (step.ReturnInvoke i) h = first t.Return h.0 h.1 h.2 h.3 refl
    by (step.SetSlot slot s) h = first t.Slot h.0 h.1 h.2 h.3 refl
    by (step.Append key s) h = first t.Append h.0 h.1 h.2 h.3 refl
    by step.Clear h = first t.Clear h.0 h.1 h.2 h.3 refl
    by (step.Throw v) h = first t.Throw h.0 h.1 h.2 h.3 refl
    by (step.Invoke i) h = first t.Invoke h.0 h.1 h.2 h.3 refl
