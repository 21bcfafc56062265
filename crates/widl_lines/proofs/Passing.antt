-- One line further in a script.
use Rattle.std.proofs.Common.{◌≡◌, ◌≤◌, ℕ, ◌<◌, List, [], ◌∷◌, ◌++◌, length, Option, Some, None, refl, sym, ◌∙◌, ap, subst, arith, append_assoc}
use Rattle.std.specs.Prelude.{IsUtf8, Result, IfErr}
use Rattle.std.specs.Result.{IsErrAnd}
use Rattle.std.proofs.lemmas.Result.{err_from_is_err_and}
use Rattle.widl_text.specs.Limits.{most_file_bytes}
use Rattle.widl_lex.specs.Utf8.{IsUtf8Fault}
use Rattle.widl_lines.specs.declared.blocks.Block.{Block}
use Rattle.widl_lines.specs.declared.line_break.LineBreak.{LineBreak}
use Rattle.widl_lines.specs.declared.script_place.ScriptPlace.{ScriptPlace}
use Rattle.widl_lines.specs.declared.script_place.ScriptFault.{ScriptFault}
use Rattle.widl_lines.specs.declared.script_place.ScriptFault.TheVariants.{Refused, Memory}
use Rattle.widl_lines.specs.Words.{Lexeme}
use Rattle.widl_lines.specs.Blocks.{innermost, blocks_after}
use Rattle.widl_lines.specs.Breaks.{LineBreaks}
use Rattle.widl_lines.specs.TextBreaks.{Line, numbered, place_in, TextBreak, here, later, unclosed, closed, unclosed_at, script_lines, placed, ScriptBreak, not_utf8, in_lines, IsScript, utf8_place}
use Rattle.widl_lines.specs.LineTerms.{State, Reads, RefusedIn, IsRead, IsRefusedBy}
use Rattle.widl_lines.specs.Refusals.{IsRefusal}

-- an error that is handed on as it is
pub handed_on : {T E : Type 0} (P : E → Type 0) (r : Result T E) (fault : E) → IsErrAnd r (λ y. y ≡ fault) → P fault → IfErr r P
handed_on P r fault h p = let q = err_from_is_err_and r h in subst (λ x. IfErr x P) (sym q.1) (subst P (sym q.2) p)

-- a line that breaks something
pub refused_line : (state : State) (number end : ℕ) (words spec : List Lexeme) (b : LineBreak) (place : ScriptPlace) → words ≡ spec → 0 < length words → LineBreaks state.blocks words (Some b) → place ≡ place_in (record { number = number; end = end; words = words }) b → (lines : List Line) → TextBreak state.last state.blocks (numbered number end spec ++ lines) (Some place)
refused_line state number end [] spec b place same some broken place_is lines = absurd (omega arith)
refused_line state number end (word ∷ words) spec b place same some broken place_is lines =
    subst (λ x. TextBreak state.last state.blocks (numbered number end x ++ lines) (Some place)) same
    (subst (λ x. TextBreak state.last state.blocks (record { number = number; end = end; words = word ∷ words } ∷ lines) (Some x)) (sym place_is) (here b broken))

-- a line that breaks nothing
pub passed_line : (old new : State) (number end : ℕ) (inside : Option Block) (words spec : List Lexeme) → words ≡ spec → 0 < length words → LineBreaks old.blocks words None → inside ≡ innermost old.blocks → new.blocks ≡ blocks_after words old.blocks → new.last ≡ number → new.lines ≡ old.lines ++ record { inside = inside; line = record { number = number; end = end; words = words } } ∷ [] → Reads old new (numbered number end spec)
passed_line old new number end inside [] spec same some none inside_is blocks last lines = absurd (omega arith)
passed_line old new number end inside (word ∷ words) spec same some none inside_is blocks last lines =
    subst (λ x. Reads old new (numbered number end x)) same
    (record {
      breaks = λ more p h. later none (subst (λ x. TextBreak x (blocks_after (word ∷ words) old.blocks) more p) last (subst (λ x. TextBreak new.last x more p) blocks h));
      placed_are = λ more.
          ap (λ x. old.lines ++ record { inside = x; line = record { number = number; end = end; words = word ∷ words } } ∷ placed (blocks_after (word ∷ words) old.blocks) more) (sym inside_is)
          ∙ ap (λ x. old.lines ++ record { inside = inside; line = record { number = number; end = end; words = word ∷ words } } ∷ placed x more) (sym blocks)
          ∙ sym (append_assoc old.lines _ _)
          ∙ ap (λ x. x ++ placed new.blocks more) (sym lines);
    })

-- no words, no line
pub no_line : (state : State) (number end : ℕ) (words spec : List Lexeme) → words ≡ spec → length words ≡ 0 → Reads state state (numbered number end spec)
no_line state number end [] spec same none = subst (λ x. Reads state state (numbered number end x)) same (record { breaks = λ more p h. h; placed_are = λ more. refl })
no_line state number end (word ∷ words) spec same none = absurd (omega arith)

module _ (text : List ℕ) where
  -- what is left to be read
  abbrev pub Left : State → List Line → Type 0
  Left state left = ((p : Option ScriptPlace) → TextBreak state.last state.blocks left p → TextBreak 1 [] (script_lines text) p) × (state.lines ++ placed state.blocks left ≡ placed [] (script_lines text))

  pub refused_by : (state : State) (read more left : List Line) (fault : ScriptFault) → left ≡ read ++ more → ((p : Option ScriptPlace) → TextBreak state.last state.blocks left p → TextBreak 1 [] (script_lines text) p) → RefusedIn state read fault → IsRefusedBy text fault
  refused_by state read more left (Refused place) e before h = before (Some place) (subst (λ x. TextBreak state.last state.blocks x (Some place)) (sym e) (h more))
  refused_by state read more left Memory e before h = tt

  pub breaks_further : (old new : State) (read more left : List Line) → left ≡ read ++ more → Reads old new read → ((p : Option ScriptPlace) → TextBreak old.last old.blocks left p → TextBreak 1 [] (script_lines text) p) → (p : Option ScriptPlace) → TextBreak new.last new.blocks more p → TextBreak 1 [] (script_lines text) p
  breaks_further old new read more left e reads before p h = before p (subst (λ x. TextBreak old.last old.blocks x p) (sym e) (reads.breaks more p h))

  pub placed_further : (old new : State) (read more left : List Line) → left ≡ read ++ more → Reads old new read → old.lines ++ placed old.blocks left ≡ placed [] (script_lines text) → new.lines ++ placed new.blocks more ≡ placed [] (script_lines text)
  placed_further old new read more left e reads before = sym (reads.placed_are more) ∙ ap (λ x. old.lines ++ placed old.blocks x) (sym e) ∙ before

  pub is_refusal : IsUtf8 text → (fault : ScriptFault) → IsRefusedBy text fault → IsRefusal text fault
  is_refusal utf8 (Refused place) h = in_lines utf8 h
  is_refusal utf8 Memory h = tt

  pub not_closed : (state : State) → IsUtf8 text → IsRead text state → (state.blocks ≡ [] → ⊥) → ScriptBreak text (Some (unclosed_at state.last))
  not_closed state utf8 read some = in_lines utf8 (read.breaks (Some (unclosed_at state.last)) (open_at state.blocks some))
    where
      open_at : (blocks : List Block) → (blocks ≡ [] → ⊥) → TextBreak state.last blocks [] (Some (unclosed_at state.last))
      open_at [] some = absurd (some refl)
      open_at (block ∷ blocks) some = unclosed

  pub all_closed : (state : State) → IsUtf8 text → IsRead text state → state.blocks ≡ [] → ScriptBreak text None
  all_closed state utf8 read none = in_lines utf8 (read.breaks None (subst (λ x. TextBreak state.last x [] None) (sym none) closed))

  pub whole_script : (state : State) → length text ≤ most_file_bytes → IsUtf8 text → IsRead text state → state.blocks ≡ [] → IsScript state.lines
  whole_script state short utf8 read none = record { text = text; short = short; unbroken = all_closed state utf8 read none; lines_are = read.placed_are }

  pub not_text : (at : ℕ) (place : ScriptPlace) → IsUtf8Fault text at → place ≡ utf8_place text at → ScriptBreak text (Some place)
  not_text at place fault e = subst (λ x. ScriptBreak text (Some x)) (sym e) (not_utf8 at fault)
