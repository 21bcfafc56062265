-- The first line of a text.
use Rattle.std.proofs.Common.{◌≡◌, ℕ, zero, suc, ◌+◌, ◌-◌, ◌<◌, ◌≤◌, Bool, true, false, cond, List, [], ◌∷◌, ◌++◌, length, get_or, take, drop, refl, sym, ◌∙◌, ap, arith, nat_eq, eqb-true, eq-eqb}
use Rattle.std.proofs.lemmas.List.{take_more}
use Rattle.std.proofs.lemmas.List.Sums.{count_by_more_yes, count_by_more_no}
use Rattle.widl_lines.specs.Lines.{put_before, pieces_of, without_return, lines_of_pieces, lines_of, IsLineEnd, line_number, column_after, column_number}

-- what no LF stands in is one piece
whole : (text : List ℕ) → ((k : ℕ) → k < length text → get_or text k 0 ≡ 10 → ⊥) → pieces_of text ≡ text ∷ []
whole [] none = refl
whole (b ∷ text) none = go (nat_eq b 10) refl (whole text (λ k lt. none (suc k) (omega arith)))
  where
    go : (v : Bool) → nat_eq b 10 ≡ v → pieces_of text ≡ text ∷ [] → cond v ([] ∷ pieces_of text) (put_before b (pieces_of text)) ≡ (b ∷ text) ∷ []
    go true e rest = absurd (none 0 (omega arith) (eqb-true b 10 e))
    go false e rest = ap (put_before b) rest

pub one_line : (text : List ℕ) → ((k : ℕ) → k < length text → get_or text k 0 ≡ 10 → ⊥) → lines_of text ≡ text ∷ []
unfolding lines_of
one_line text none = ap lines_of_pieces (whole text none)

cut_piece : (text : List ℕ) (at : ℕ) → at < length text → get_or text at 0 ≡ 10 → ((k : ℕ) → k < at → get_or text k 0 ≡ 10 → ⊥) → pieces_of text ≡ take at text ∷ pieces_of (drop (suc at) text)
cut_piece [] at lt found before = absurd (omega arith)
cut_piece (b ∷ text) zero lt found before = ap (λ v. cond v ([] ∷ pieces_of text) (put_before b (pieces_of text))) (eq-eqb b 10 found)
cut_piece (b ∷ text) (suc at) lt found before = go (nat_eq b 10) refl (cut_piece text at (omega arith) found (λ k l. before (suc k) (omega arith)))
  where
    go : (v : Bool) → nat_eq b 10 ≡ v → pieces_of text ≡ take at text ∷ pieces_of (drop (suc at) text) → cond v ([] ∷ pieces_of text) (put_before b (pieces_of text)) ≡ (b ∷ take at text) ∷ pieces_of (drop (suc at) text)
    go true e rest = absurd (before 0 (omega arith) (eqb-true b 10 e))
    go false e rest = ap (put_before b) rest

-- the first of several pieces ends with an LF
first_of_pieces : (piece : List ℕ) (text : List ℕ) → lines_of_pieces (piece ∷ pieces_of text) ≡ without_return piece ∷ lines_of_pieces (pieces_of text)
first_of_pieces piece [] = refl
first_of_pieces piece (b ∷ text) = go (nat_eq b 10) (pieces_of text)
  where
    go : (v : Bool) (pieces : List (List ℕ)) → lines_of_pieces (piece ∷ cond v ([] ∷ pieces) (put_before b pieces)) ≡ without_return piece ∷ lines_of_pieces (cond v ([] ∷ pieces) (put_before b pieces))
    go true pieces = refl
    go false [] = refl
    go false (p ∷ pieces) = refl

pub first_lines : (text : List ℕ) (at : ℕ) → at < length text → get_or text at 0 ≡ 10 → ((k : ℕ) → k < at → get_or text k 0 ≡ 10 → ⊥) → lines_of text ≡ without_return (take at text) ∷ lines_of (drop (suc at) text)
unfolding lines_of
first_lines text at lt found before = ap lines_of_pieces (cut_piece text at lt found before) ∙ first_of_pieces (take at text) (drop (suc at) text)

-- a CR at the end, and none
pub return_left : (piece : List ℕ) → 0 < length piece → get_or piece (length piece - 1) 0 ≡ 13 → take (length piece - 1) piece ≡ without_return piece
return_left [] some last = absurd (omega arith)
return_left (b ∷ []) some last = ap (λ v. cond v [] (b ∷ [])) (sym (eq-eqb b 13 last))
return_left (b ∷ c ∷ piece) some last =
    let e : suc (suc (length piece)) - 1 ≡ suc (suc (length piece) - 1) = omega arith in
    ap (λ n. take n (b ∷ c ∷ piece)) e ∙ ap (λ x. b ∷ x) (return_left (c ∷ piece) (omega arith) (sym (ap (λ n. get_or (b ∷ c ∷ piece) n 0) e) ∙ last))

pub empty_left : (piece : List ℕ) → length piece ≡ 0 → piece ≡ without_return piece
empty_left [] e = refl
empty_left (b ∷ piece) e = absurd (omega arith)

pub nothing_left : (piece : List ℕ) → (get_or piece (length piece - 1) 0 ≡ 13 → ⊥) → piece ≡ without_return piece
nothing_left [] last = refl
nothing_left (b ∷ []) last = go (nat_eq b 13) refl
  where
    go : (v : Bool) → nat_eq b 13 ≡ v → b ∷ [] ≡ cond v [] (b ∷ [])
    go true e = absurd (last (eqb-true b 13 e))
    go false e = refl
nothing_left (b ∷ c ∷ piece) last =
    let e : suc (suc (length piece)) - 1 ≡ suc (suc (length piece) - 1) = omega arith in
    ap (λ x. b ∷ x) (nothing_left (c ∷ piece) (λ h. last (ap (λ n. get_or (b ∷ c ∷ piece) n 0) e ∙ h)))

-- a slice to the end
take_enough : (xs : List ℕ) (k : ℕ) → length xs ≤ k → take k xs ≡ xs
take_enough [] zero le = refl
take_enough [] (suc k) le = refl
take_enough (x ∷ xs) zero le = absurd (omega arith)
take_enough (x ∷ xs) (suc k) le = ap (λ y. x ∷ y) (take_enough xs k (omega arith))

length_drop : (xs : List ℕ) (k : ℕ) → k ≤ length xs → length (drop k xs) ≡ length xs - k
length_drop xs zero le = omega arith
length_drop [] (suc k) le = absurd (omega arith)
length_drop (x ∷ xs) (suc k) le = let r = length_drop xs k (omega arith) in omega (arith, r)

pub to_end : (line : List ℕ) (at : ℕ) → at ≤ length line → take (length line - at) (drop at line) ≡ drop at line
to_end line at le = take_enough (drop at line) (length line - at) (omega (arith, length_drop line at le))

pub first_and_rest : (text line : List ℕ) (at : ℕ) → IsLineEnd text at → line ≡ without_return (take at text) → lines_of text ≡ line ∷ lines_of (take (length text - (at + 1)) (drop (at + 1) text))
first_and_rest text line at end line_is =
    let e : suc at ≡ at + 1 = omega arith in
    first_lines text at end.0 end.1 end.2
    ∙ ap (λ n. without_return (take at text) ∷ lines_of (drop n text)) e
    ∙ ap (λ x. x ∷ lines_of (drop (at + 1) text)) (sym line_is)
    ∙ ap (λ x. line ∷ lines_of x) (sym (to_end text (at + 1) (omega (arith, end.0))))

-- one byte further
pub next_line : (text : List ℕ) (i line : ℕ) → i < length text → get_or text i 0 ≡ 10 → line ≡ line_number text i → line + 1 ≡ line_number text (i + 1)
next_line text i line lt e before = let r = count_by_more_yes (λ b. nat_eq b 10) text i 0 lt (eq-eqb (get_or text i 0) 10 e) in omega (arith, r, before)

not_ten : (b : ℕ) → (b ≡ 10 → ⊥) → nat_eq b 10 ≡ false
not_ten b ne = go (nat_eq b 10) refl
  where
    go : (v : Bool) → nat_eq b 10 ≡ v → v ≡ false
    go true e = absurd (ne (eqb-true b 10 e))
    go false e = refl

pub same_line : (text : List ℕ) (i line : ℕ) → i < length text → (get_or text i 0 ≡ 10 → ⊥) → line ≡ line_number text i → line ≡ line_number text (i + 1)
same_line text i line lt ne before = let r = count_by_more_no (λ b. nat_eq b 10) text i 0 lt (not_ten (get_or text i 0) ne) in omega (arith, r, before)

column_after_append : (column : ℕ) (text : List ℕ) (b : ℕ) → column_after column (text ++ b ∷ []) ≡ cond (nat_eq b 10) 1 (column_after column text + 1)
column_after_append column [] b = refl
column_after_append column (x ∷ text) b = column_after_append (cond (nat_eq x 10) 1 (column + 1)) text b

column_further : (text : List ℕ) (i : ℕ) → i < length text → column_number text (i + 1) ≡ cond (nat_eq (get_or text i 0) 10) 1 (column_number text i + 1)
column_further text i lt = ap (column_after 1) (take_more text i 0 lt) ∙ column_after_append 1 (take i text) (get_or text i 0)

pub first_column : (text : List ℕ) (i : ℕ) → i < length text → get_or text i 0 ≡ 10 → 1 ≡ column_number text (i + 1)
first_column text i lt e = sym (column_further text i lt ∙ ap (λ v. cond v 1 (column_number text i + 1)) (eq-eqb (get_or text i 0) 10 e))

pub next_column : (text : List ℕ) (i column : ℕ) → i < length text → (get_or text i 0 ≡ 10 → ⊥) → column ≡ column_number text i → column + 1 ≡ column_number text (i + 1)
next_column text i column lt ne before = ap (λ n. n + 1) before ∙ sym (column_further text i lt ∙ ap (λ v. cond v 1 (column_number text i + 1)) (not_ten (get_or text i 0) ne))

-- a byte of the first bytes
pub in_prefix : (text : List ℕ) (at i : ℕ) → i < length (take at text) → (i < length text) × (get_or (take at text) i 0 ≡ get_or text i 0)
in_prefix [] zero i lt = absurd (omega arith)
in_prefix [] (suc at) i lt = absurd (omega arith)
in_prefix (b ∷ text) zero i lt = absurd (omega arith)
in_prefix (b ∷ text) (suc at) zero lt = (omega arith, refl)
in_prefix (b ∷ text) (suc at) (suc i) lt = let r = in_prefix text at i (omega arith) in (omega (arith, r.0), r.1)
