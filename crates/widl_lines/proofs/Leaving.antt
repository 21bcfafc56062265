-- The lines that are left of a text, and what reading one of them does.
use Rattle.std.proofs.Common.{◌≡◌, ℕ, suc, ◌+◌, ◌<◌, ◌≤◌, true, false, List, [], ◌∷◌, ◌++◌, length, map, Option, Some, None, nat_eq, refl, sym, ◌∙◌, ap, subst, arith, append-nil, eq-eqb, Bor}
use Rattle.std.specs.Prelude.{MatchOption, is_some}
use Rattle.widl_lines.specs.declared.blocks.Change.{Change}
use Rattle.widl_lines.specs.declared.blocks.Block.{Block}
use Rattle.widl_lines.specs.declared.line_break.LineBreak.{LineBreak}
use Rattle.widl_lines.specs.declared.script_place.ScriptPlace.{ScriptPlace}
use Rattle.widl_lines.specs.declared.reading.LineWords.{LineWords}
use Rattle.widl_lines.specs.declared.words.Word.{Word}
use Rattle.widl_lines.specs.Lines.{lines_of}
use Rattle.widl_lines.specs.Words.{Lexeme, words_of}
use Rattle.widl_lines.specs.WordTerms.{lexeme_of}
use Rattle.widl_lines.specs.Stacks.{blocks_of}
use Rattle.widl_lines.specs.Blocks.{innermost, blocks_after, change_by, after_change}
use Rattle.widl_lines.specs.Breaks.{LineBreaks}
use Rattle.widl_lines.specs.TextBreaks.{Line, numbered, place_in, TextBreak, lines_from, script_lines, placed}
use Rattle.widl_lines.specs.LineTerms.{line_of, State, Reads, IsRead}
use Rattle.widl_lines.proofs.FromMachine.{same_length}
use Rattle.widl_lines.proofs.Passing.{refused_line, passed_line}

-- the lines of what is left, the first of which has this number
abbrev pub left_lines : ℕ → Option (Bor (List ℕ)) → List Line
left_lines number None = []
left_lines number (Some rest) = lines_from number (lines_of rest.now)

abbrev pub left_bytes : Option (Bor (List ℕ)) → ℕ
left_bytes None = 0
left_bytes (Some rest) = suc (length rest.now)

pub lines_next : (number : ℕ) (left after : Option (Bor (List ℕ))) (rest : Bor (List ℕ)) (line : List ℕ) → left ≡ Some rest → MatchOption after (lines_of rest.now ≡ line ∷ []) (λ more. lines_of rest.now ≡ line ∷ lines_of more.now) → left_lines number left ≡ numbered number (length line + 1) (words_of line) ++ left_lines (number + 1) after
lines_next number left None rest line e h = ap (left_lines number) e ∙ ap (lines_from number) h
lines_next number left (Some more) rest line e h = ap (left_lines number) e ∙ ap (lines_from number) h

pub bytes_next : (left after : Option (Bor (List ℕ))) (rest : Bor (List ℕ)) (line : List ℕ) → left ≡ Some rest → MatchOption after (length line ≤ length rest.now) (λ more. length line + length more.now < length rest.now) → left_bytes after < left_bytes left
bytes_next left None rest line e h = let f : left_bytes left ≡ suc (length rest.now) = ap left_bytes e in omega (arith, f)
bytes_next left (Some more) rest line e h = let f : left_bytes left ≡ suc (length rest.now) = ap left_bytes e in omega (arith, f, h)

pub line_short : (left after : Option (Bor (List ℕ))) (rest : Bor (List ℕ)) (line : List ℕ) → left ≡ Some rest → MatchOption after (length line ≤ length rest.now) (λ more. length line + length more.now < length rest.now) → length line < left_bytes left
line_short left None rest line e h = let f : left_bytes left ≡ suc (length rest.now) = ap left_bytes e in omega (arith, f, h)
line_short left (Some more) rest line e h = let f : left_bytes left ≡ suc (length rest.now) = ap left_bytes e in omega (arith, f, h)

-- nothing is left
pub all_read : (text : List ℕ) (state : State) (number : ℕ) (left : Option (Bor (List ℕ))) → left ≡ None → ((p : Option ScriptPlace) → TextBreak state.last state.blocks (left_lines number left) p → TextBreak 1 [] (script_lines text) p) → state.lines ++ placed state.blocks (left_lines number left) ≡ placed [] (script_lines text) → IsRead text state
all_read text state number left e breaks lines = record {
  breaks = λ p h. breaks p (subst (λ x. TextBreak state.last state.blocks (left_lines number x) p) (sym e) h);
  placed_are = sym (append-nil state.lines) ∙ ap (λ x. state.lines ++ placed state.blocks (left_lines number x)) (sym e) ∙ lines;
}

some_items : {X : Type 0} (items : List X) (n : ℕ) → n ≡ length items → false ≡ nat_eq n 0 → 0 < length items
some_items [] n e f = let z : nat_eq n 0 ≡ true = eq-eqb n 0 e in cc
some_items (x ∷ items) n e f = omega arith

some_words : (items : List Word) (n : ℕ) → n ≡ length items → false ≡ nat_eq n 0 → 0 < length (map lexeme_of items)
some_words items n e f = let h = some_items items n e f in omega (arith, same_length items, h)

mapped : (lines : List LineWords) (line : LineWords) → map line_of (lines ++ line ∷ []) ≡ map line_of lines ++ line_of line ∷ []
mapped [] line = refl
mapped (x ∷ lines) line = ap (λ y. line_of x ∷ y) (mapped lines line)

is_none : (found : Option LineBreak) → ((b : LineBreak) → found ≡ Some b → ⊥) → found ≡ None
is_none None h = refl
is_none (Some b) h = absurd (h b refl)

-- a break was found, or none
pub told : (found : Option LineBreak) (P : Type 0) → is_some found ≡ true → MatchOption found P (λ b. Unit {0})
told None P e = cc
told (Some b) P e = tt

none_of : (found : Option LineBreak) → is_some found ≡ false → found ≡ None
none_of None e = refl
none_of (Some b) e = cc

pub seen_broken : (old seen : List Block) (words : List Lexeme) (found : Option LineBreak) → seen ≡ old → LineBreaks (blocks_of seen) words found → LineBreaks (blocks_of old) words found
seen_broken old seen words found e h = subst (λ x. LineBreaks (blocks_of x) words found) e h

pub none_broken : (old seen : List Block) (words : List Lexeme) (found : Option LineBreak) → seen ≡ old → is_some found ≡ false → LineBreaks (blocks_of seen) words found → LineBreaks (blocks_of old) words None
none_broken old seen words found e none h = subst (LineBreaks (blocks_of old) words) (none_of found none) (seen_broken old seen words found e h)

pub blocks_changed : (old new seen : List Block) (words : List Lexeme) (change : Option Change) → seen ≡ old → change ≡ change_by words (blocks_of seen) → blocks_of new ≡ after_change change (blocks_of old) → blocks_of new ≡ blocks_after words (blocks_of old)
blocks_changed old new seen words change e f h = h ∙ ap (λ x. after_change x (blocks_of old)) (f ∙ ap (λ x. change_by words (blocks_of x)) e)

-- a line that breaks something
pub refused_read : (state : State) (number end n : ℕ) (items one other : List Word) (spec : List Lexeme) (found : Option LineBreak) (b : LineBreak) (place : ScriptPlace) → map lexeme_of items ≡ spec → n ≡ length items → false ≡ nat_eq n 0 → one ≡ items → other ≡ items → LineBreaks state.blocks (map lexeme_of one) found → found ≡ Some b → place ≡ place_in (record { number = number; end = end; words = map lexeme_of other }) b → (lines : List Line) → TextBreak state.last state.blocks (numbered number end spec ++ lines) (Some place)
refused_read state number end n items one other spec found b place same count some one_is other_is broken is place_is lines =
    refused_line state number end (map lexeme_of items) spec b place same (some_words items n count some)
    (subst (λ x. LineBreaks state.blocks (map lexeme_of x) (Some b)) one_is (subst (λ x. LineBreaks state.blocks (map lexeme_of one) x) is broken))
    (place_is ∙ ap (λ x. place_in (record { number = number; end = end; words = map lexeme_of x }) b) other_is)
    lines

-- a line that breaks nothing
pub passed_read : (old_last n : ℕ) (old_blocks new_blocks seen : List Block) (old_lines new_lines : List LineWords) (line : LineWords) (one : List Word) (spec : List Lexeme) (found : Option LineBreak) → map lexeme_of line.words.items ≡ spec → n ≡ length line.words.items → false ≡ nat_eq n 0 → one ≡ line.words.items → LineBreaks (blocks_of old_blocks) (map lexeme_of one) found → MatchOption found (blocks_of new_blocks ≡ blocks_after (map lexeme_of one) (blocks_of old_blocks)) (λ b. Unit {0}) → found ≡ None → line.inside ≡ innermost (blocks_of seen) → seen ≡ old_blocks → new_lines ≡ old_lines ++ line ∷ [] → Reads (record { last = old_last; blocks = blocks_of old_blocks; lines = map line_of old_lines }) (record { last = line.number; blocks = blocks_of new_blocks; lines = map line_of new_lines }) (numbered line.number line.end spec)
passed_read old_last n old_blocks new_blocks seen old_lines new_lines line one spec found same count some one_is broken blocks none inside seen_is lines =
    passed_line (record { last = old_last; blocks = blocks_of old_blocks; lines = map line_of old_lines }) (record { last = line.number; blocks = blocks_of new_blocks; lines = map line_of new_lines }) line.number line.end line.inside (map lexeme_of line.words.items) spec same (some_words line.words.items n count some)
    (subst (λ x. LineBreaks (blocks_of old_blocks) (map lexeme_of x) None) one_is (subst (λ x. LineBreaks (blocks_of old_blocks) (map lexeme_of one) x) none broken))
    (inside ∙ ap (λ x. innermost (blocks_of x)) seen_is)
    (subst (λ x. MatchOption x (blocks_of new_blocks ≡ blocks_after (map lexeme_of one) (blocks_of old_blocks)) (λ b. Unit {0})) none blocks ∙ ap (λ x. blocks_after (map lexeme_of x) (blocks_of old_blocks)) one_is)
    refl
    (ap (map line_of) lines ∙ mapped old_lines line)
