-- A text has at most two words for each byte, and one line more than it has line ends.
use Rattle.std.proofs.Common.{◌≡◌, ℕ, zero, suc, ◌+◌, ◌*◌, ◌≤◌, Bool, true, false, cond, List, [], ◌∷◌, ◌++◌, length, take, arith, ap, length-append, subst, sym}
use Rattle.std.specs.Prelude.{nat_eq}
use Rattle.widl_lines.specs.declared.blocks.Block.{Block}
use Rattle.widl_lines.specs.declared.word_form.WordForm.{WordForm}
use Rattle.widl_lines.specs.declared.word_form.WordForm.TheVariants.{Bare, Text, RawText, Unclosed, Decimal, Missing}
use Rattle.widl_lines.specs.declared.shape.Context.{Context}
use Rattle.widl_lines.specs.declared.shape.Context.TheVariants.{First}
use Rattle.widl_lines.specs.declared.shape.Shape.{Shape}
use Rattle.widl_lines.specs.Lines.{put_before, pieces_of, without_return, lines_of_pieces, lines_of}
use Rattle.widl_lines.specs.Words.{Lexeme, lexeme, missing, is_blank, shape_of, next_context, words_from, is_comment, words_of}
use Rattle.widl_lines.specs.Blocks.{blocks_after}
use Rattle.widl_lines.specs.TextBreaks.{Line, PlacedLine, IsScript, lines_from, most_words_and_lines, numbered, placed, script_lines, words_and_lines}

-- 1. Words of a line

few_missing : (form : WordForm) (end : ℕ) → length (missing form end) ≤ 1
few_missing Bare end = omega arith
few_missing Text end = omega arith
few_missing RawText end = omega arith
few_missing Unclosed end = omega arith
few_missing Decimal end = omega arith
few_missing Missing end = omega arith

few_from : (c : Context) (column skip : ℕ) (text : List ℕ) → length (words_from c column skip text) ≤ 2 * length text
few_from c column skip [] = omega arith
few_from c column (suc skip) (b ∷ text) = let r = few_from c (column + 1) skip text in omega (arith, r)
few_from c column zero (b ∷ text) = go (is_blank b) (shape_of c b text) (λ d skip. few_from d (column + 1) skip text)
  where
    go : (blank : Bool) (shape : Shape) → ((d : Context) (skip : ℕ) → length (words_from d (column + 1) skip text) ≤ 2 * length text)
        → length (cond blank (words_from c (column + 1) zero text) (lexeme shape.form column (b ∷ take shape.more text) ∷ missing shape.form (column + 1 + shape.more) ++ words_from (next_context c (b ∷ take shape.more text)) (column + 1) shape.more text)) ≤ 2 * suc (length text)
    go true shape rest = omega (arith, rest c zero)
    go false shape rest =
        let m = few_missing shape.form (column + 1 + shape.more) in
        let s = rest (next_context c (b ∷ take shape.more text)) shape.more in
        omega (arith, m, s, length-append (missing shape.form (column + 1 + shape.more)) (words_from (next_context c (b ∷ take shape.more text)) (column + 1) shape.more text))

few_in_line : (line : List ℕ) → length (words_of line) ≤ 2 * length line
unfolding words_of
few_in_line line = go (is_comment line) (few_from First 1 0 line)
  where
    go : (comment : Bool) → length (words_from First 1 0 line) ≤ 2 * length line → length (cond comment [] (words_from First 1 0 line)) ≤ 2 * length line
    go true r = omega arith
    go false r = r

-- 2. Bytes of lines

-- how many bytes the pieces have, and one more for each piece
bytes_in : List (List ℕ) → ℕ
bytes_in [] = 0
bytes_in (piece ∷ pieces) = length piece + 1 + bytes_in pieces

one_byte_more : (b : ℕ) (pieces : List (List ℕ)) → 1 ≤ bytes_in pieces → bytes_in (put_before b pieces) ≡ bytes_in pieces + 1
unfolding bytes_in
one_byte_more b [] some = absurd (omega (arith, some))
one_byte_more b (piece ∷ pieces) some = omega arith

all_bytes : (text : List ℕ) → bytes_in (pieces_of text) ≡ length text + 1
unfolding bytes_in
all_bytes [] = omega arith
all_bytes (b ∷ text) = go (nat_eq b 10) (pieces_of text) (all_bytes text)
  where
    go : (end : Bool) (pieces : List (List ℕ)) → bytes_in pieces ≡ length text + 1 → bytes_in (cond end ([] ∷ pieces) (put_before b pieces)) ≡ suc (length text) + 1
    go true pieces r = omega (arith, r)
    go false pieces r = let more = one_byte_more b pieces (omega (arith, r)) in omega (arith, more, r)

few_left : (piece : List ℕ) → length (without_return piece) ≤ length piece
few_left [] = omega arith
few_left (b ∷ []) = go (nat_eq b 13)
  where
    go : (v : Bool) → length (cond v [] (b ∷ [])) ≤ 1
    go true = omega arith
    go false = omega arith
few_left (b ∷ c ∷ piece) = let r = few_left (c ∷ piece) in omega (arith, r)

few_in_lines : (pieces : List (List ℕ)) → bytes_in (lines_of_pieces pieces) ≤ bytes_in pieces
unfolding bytes_in
few_in_lines [] = omega arith
few_in_lines (piece ∷ []) = omega arith
few_in_lines (piece ∷ next ∷ pieces) =
    let r = few_in_lines (next ∷ pieces) in
    let left = few_left piece in
    omega (arith, r, left)

few_bytes : (text : List ℕ) → bytes_in (lines_of text) ≤ length text + 1
unfolding lines_of
few_bytes text = let r = few_in_lines (pieces_of text) in omega (arith, r, all_bytes text)

-- 3. Words of all lines

few_placed : (blocks : List Block) (number : ℕ) (lines : List (List ℕ)) → words_and_lines (placed blocks (lines_from number lines)) ≤ 2 * bytes_in lines
unfolding bytes_in
few_placed blocks number [] = omega arith
few_placed blocks number (line ∷ lines) = go (words_of line) (few_in_line line) (λ b. few_placed b (number + 1) lines)
  where
    go : (words : List Lexeme) → length words ≤ 2 * length line → ((b : List Block) → words_and_lines (placed b (lines_from (number + 1) lines)) ≤ 2 * bytes_in lines)
        → words_and_lines (placed blocks (numbered number (length line + 1) words ++ lines_from (number + 1) lines)) ≤ 2 * (length line + 1 + bytes_in lines)
    go [] few rest = omega (arith, rest blocks)
    go (word ∷ words) few rest = omega (arith, rest (blocks_after (word ∷ words) blocks), few)

pub few_words : (lines : List PlacedLine) → IsScript lines → words_and_lines lines ≤ most_words_and_lines
few_words lines script =
    let all = few_placed [] 1 (lines_of script.text) in
    let bytes = few_bytes script.text in
    let few : words_and_lines (placed [] (script_lines script.text)) ≤ most_words_and_lines = omega (arith, all, bytes, script.short) in
    subst (λ (x : List PlacedLine). words_and_lines x ≤ most_words_and_lines) (sym script.lines_are) few
