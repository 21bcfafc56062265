-- The outcome of reading bytes over a list, from those of its parts.
use Rattle.std.proofs.Common.{◌≡◌, ◌⊎◌, inl, inr, ℕ, List, [], ◌∷◌, Option, Some, None, Result, Ok, Err, refl, sym, ◌∙◌, ap, subst}
use Rattle.std.specs.Prelude.{map, IfOk, IfErr, OnOk, IsOkUnless}
use Rattle.widl_idl.specs.DefinitionTerms.{DefsTerm}
use Rattle.widl_lines.specs.declared.blocks.Block.{Block}
use Rattle.widl_lines.specs.declared.reading.LineWords.{LineWords}
use Rattle.widl_lines.specs.declared.script_place.ScriptFault.{ScriptFault}
use Rattle.widl_lines.specs.declared.script_place.ScriptFault.TheVariants.{Refused, Memory}
use Rattle.widl_lines.specs.declared.script_place.ScriptPlace.{ScriptPlace}
use Rattle.widl_lines.specs.Blocks.{blocks_after}
use Rattle.widl_lines.specs.LineTerms.{line_of}
use Rattle.widl_lines.specs.Refusals.{IsErrWith}
use Rattle.widl_lines.specs.Refusals.{IsRefusal as IsRefusalOfForm}
use Rattle.widl_lines.specs.TextBreaks.{Line, PlacedLine, ScriptBreak, TextBreak, placed, script_lines}
use Rattle.widl_script_tree.specs.Tables.{Tables, script_tree}
use Rattle.widl_script_tree.specs.Trees.{ScriptTree}
use Rattle.widl_script_rules.specs.LeastBreak.{IsLeastBreak}
use Rattle.widl_script.specs.Outcomes.{IsRefusal}
use Rattle.widl_script.specs.Scripts.{Answers, IsFirstBreak, IsReadAs, IsScriptOf, of_form, of_rules, words_of_lines}
use Rattle.widl_script_words.specs.SpelledStatements.{IsTreeOf, words_of}
use Rattle.widl_script_rules.specs.Surroundings.{plain_line, plain_lines}
use Rattle.widl_script_words.proofs.PlainLines.{lines_unbroken}
use Rattle.widl_script_reader.proofs.WholeScript.{words_placed}

-- 1. Lines

without_blocks : (lines : List LineWords) → plain_lines lines ≡ map (λ (p : PlacedLine). p.line) (map line_of lines)
without_blocks [] = refl
without_blocks (line ∷ lines) = ap (λ ls. plain_line line ∷ ls) (without_blocks lines)

of_placed : (blocks : List Block) (lines : List Line) → map (λ (p : PlacedLine). p.line) (placed blocks lines) ≡ lines
of_placed blocks [] = refl
of_placed blocks (line ∷ lines) = ap (λ ls. line ∷ ls) (of_placed (blocks_after line.words blocks) lines)

-- the lines of the program are those of the bytes
pub lines_are : (bytes : List ℕ) (lines : List LineWords) (words : List PlacedLine) → map line_of lines ≡ words → words ≡ placed [] (script_lines bytes) → plain_lines lines ≡ script_lines bytes
lines_are bytes lines words same read = without_blocks lines ∙ ap (map (λ (p : PlacedLine). p.line)) (same ∙ read) ∙ of_placed [] (script_lines bytes)

-- they break no rule of form
pub formed : (bytes : List ℕ) (lines : List Line) → lines ≡ script_lines bytes → ScriptBreak bytes None → TextBreak 1 [] lines None
formed bytes lines same unbroken = subst (λ (ls : List Line). TextBreak 1 [] ls None) (sym same) (lines_unbroken unbroken)

-- 2. Outcomes

-- the tables of a script that breaks no rule
pub read_as : (bytes : List ℕ) (list : DefsTerm) (words : List PlacedLine) (lines : List Line) (t : Tables) → words ≡ placed [] (script_lines bytes) → lines ≡ script_lines bytes → ScriptBreak bytes None → IsLeastBreak list lines None → IsTreeOf (script_tree t) (words_of words) → Answers list t →
    IsReadAs bytes list t
read_as bytes list words lines t read same unbroken none tree answers = record {
  script = record {
    formed = unbroken;
    unbroken = subst (λ (ls : List Line). IsLeastBreak list ls None) same none;
    spelled = subst (λ ls. IsTreeOf (script_tree t) ls) (ap words_of read ∙ words_placed [] (script_lines bytes)) tree;
  };
  answers = answers;
}

-- a break of form is the first
pub refused_form : (bytes : List ℕ) (list : DefsTerm) (fault : ScriptFault) → IsRefusalOfForm bytes fault → IsRefusal bytes list fault
refused_form bytes list (Refused place) h = of_form h
refused_form bytes list Memory h = tt

pub refused_rules : (bytes : List ℕ) (list : DefsTerm) (lines : List Line) (place : ScriptPlace) → lines ≡ script_lines bytes → ScriptBreak bytes None → IsLeastBreak list lines (Some place) → IsFirstBreak bytes list place
refused_rules bytes list lines place same unbroken h = of_rules unbroken (subst (λ (ls : List Line). IsLeastBreak list ls (Some place)) same h)

-- where no rule is broken only memory can be wanting
pub complete_of : {X : Type 0} (bytes : List ℕ) (list : DefsTerm) (r : Result X ScriptFault) → IfErr r (IsRefusal bytes list) → ((place : ScriptPlace) → IsFirstBreak bytes list place → ⊥) → IsOkUnless r Memory
complete_of bytes list (Ok x) refused none = tt
complete_of bytes list (Err (Refused place)) refused none = absurd (none place refused)
complete_of bytes list (Err Memory) refused none = refl

-- where one is, bytes are refused with the first
pub exact_of : (bytes : List ℕ) (list : DefsTerm) (r : Result Tables ScriptFault) → ((one other : ScriptPlace) → IsFirstBreak bytes list one → IsFirstBreak bytes list other → one ≡ other) → ((tree : ScriptTree) (place : ScriptPlace) → IsScriptOf bytes list tree → IsFirstBreak bytes list place → ⊥) →
    IfOk r (IsReadAs bytes list) → IfErr r (IsRefusal bytes list) → (place : ScriptPlace) → IsFirstBreak bytes list place → IsErrWith r (Refused place) Memory
exact_of bytes list (Ok t) one none read refused place h = none (script_tree t) place read.script h
exact_of bytes list (Err (Refused other)) one none read refused place h = inl (ap Refused (one other place refused h))
exact_of bytes list (Err Memory) one none read refused place h = inr refl
