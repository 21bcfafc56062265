-- One word further in a line.
use Rattle.std.proofs.Common.{◌≡◌, ℕ, zero, suc, ◌+◌, ◌-◌, ◌≤◌, true, false, cond, List, [], ◌∷◌, ◌++◌, length, get_or, take, drop, refl, sym, ◌∙◌, ap, arith, append_assoc}
use Rattle.widl_lines.specs.declared.shape.Context.{Context}
use Rattle.widl_lines.specs.declared.shape.Context.TheVariants.{First}
use Rattle.widl_lines.specs.declared.shape.Shape.{Shape}
use Rattle.widl_lines.specs.Words.{Lexeme, lexeme, missing, is_blank, shape_of, next_context, words_from, is_comment, words_of}

-- a word's bytes are passed over
skipped : (c : Context) (column k : ℕ) (text : List ℕ) → words_from c column k text ≡ words_from c (column + k) 0 (drop k text)
skipped c column zero [] = refl
skipped c column (suc k) [] = refl
skipped c column zero (b ∷ text) = let e : column ≡ column + 0 = omega arith in ap (λ n. words_from c n 0 (b ∷ text)) e
skipped c column (suc k) (b ∷ text) = let e : column + 1 + k ≡ column + suc k = omega arith in skipped c (column + 1) k text ∙ ap (λ n. words_from c n 0 (drop k text)) e

-- what a word adds, and the words after it
cut : Context → ℕ → ℕ → List ℕ → Shape → List Lexeme
cut c column b text shape = lexeme shape.form column (b ∷ take shape.more text) ∷ missing shape.form (column + 1 + shape.more) ++ words_from (next_context c (b ∷ take shape.more text)) (column + 1) shape.more text

at_word : (c : Context) (column b : ℕ) (text : List ℕ) (shape : Shape) → is_blank b ≡ false → shape ≡ shape_of c b text → words_from c column 0 (b ∷ text) ≡ cut c column b text shape
unfolding cut
at_word c column b text shape plain e =
    ap (λ v. cond v (words_from c (column + 1) 0 text) (cut c column b text (shape_of c b text))) plain ∙ ap (cut c column b text) (sym e)

take_length : (n : ℕ) (text : List ℕ) → n ≤ length text → length (take n text) ≡ n
take_length zero text le = refl
take_length (suc n) [] le = absurd (omega arith)
take_length (suc n) (b ∷ text) le = ap suc (take_length n text (omega arith))

pub blank_further : (c : Context) (column b : ℕ) (text : List ℕ) → is_blank b ≡ true → words_from c column 0 (b ∷ text) ≡ words_from c (column + 1) 0 text
unfolding cut
blank_further c column b text blank = ap (λ v. cond v (words_from c (column + 1) 0 text) (cut c column b text (shape_of c b text))) blank

pub word_further : (line text word others : List ℕ) (c next : Context) (column b : ℕ) (shape : Shape) (old new : List Lexeme) → is_blank b ≡ false → shape ≡ shape_of c b text → shape.more ≤ length text → word ≡ b ∷ take shape.more text → others ≡ drop shape.more text → next ≡ next_context c word → new ≡ old ++ lexeme shape.form column word ∷ missing shape.form (column + length word) → old ++ words_from c column 0 (b ∷ text) ≡ words_from First 1 0 line → new ++ words_from next (column + length word) 0 others ≡ words_from First 1 0 line
unfolding cut
word_further line text word others c next column b shape old new plain shape_is le word_is others_are next_is new_is before =
    let n : length word ≡ 1 + shape.more = ap length word_is ∙ (let r = take_length shape.more text le in omega (arith, r)) in
    let end : column + length word ≡ column + 1 + shape.more = omega (arith, n) in
    let step : words_from c column 0 (b ∷ text) ≡ (lexeme shape.form column word ∷ missing shape.form (column + length word)) ++ words_from next (column + length word) 0 others =
    at_word c column b text shape plain shape_is
    ∙ joined shape word_is end next_is others_are
    in ap (λ x. x ++ words_from next (column + length word) 0 others) new_is ∙ append_assoc old _ _ ∙ ap (λ x. old ++ x) (sym step) ∙ before
  where
    joined : (shape : Shape) → word ≡ b ∷ take shape.more text → column + length word ≡ column + 1 + shape.more → next ≡ next_context c word → others ≡ drop shape.more text → cut c column b text shape ≡ (lexeme shape.form column word ∷ missing shape.form (column + length word)) ++ words_from next (column + length word) 0 others
    joined shape word_is end next_is others_are =
        ap (λ x. lexeme shape.form column (b ∷ take shape.more text) ∷ missing shape.form (column + 1 + shape.more) ++ x) (skipped (next_context c (b ∷ take shape.more text)) (column + 1) shape.more text)
        ∙ ap (λ x. lexeme shape.form column x ∷ missing shape.form (column + 1 + shape.more) ++ words_from (next_context c x) (column + 1 + shape.more) 0 (drop shape.more text)) (sym word_is)
        ∙ ap (λ n. lexeme shape.form column word ∷ missing shape.form n ++ words_from (next_context c word) n 0 (drop shape.more text)) (sym end)
        ∙ ap (λ x. lexeme shape.form column word ∷ missing shape.form (column + length word) ++ words_from x (column + length word) 0 (drop shape.more text)) (sym next_is)
        ∙ ap (λ x. lexeme shape.form column word ∷ missing shape.form (column + length word) ++ words_from next (column + length word) 0 x) (sym others_are)

take_enough : (xs : List ℕ) (k : ℕ) → length xs ≤ k → take k xs ≡ xs
take_enough [] zero le = refl
take_enough [] (suc k) le = refl
take_enough (x ∷ xs) zero le = absurd (omega arith)
take_enough (x ∷ xs) (suc k) le = ap (λ y. x ∷ y) (take_enough xs k (omega arith))

-- the same, where the word and what comes after it are cut from the rest of the line
pub word_step : (line rest after word others : List ℕ) (c next : Context) (column : ℕ) (shape : Shape) (old new : List Lexeme) → 1 ≤ length rest → after ≡ take (length rest - 1) (drop 1 rest) → is_blank (get_or rest 0 0) ≡ false → shape ≡ shape_of c (get_or rest 0 0) after → shape.more ≤ length after → word ≡ take (1 + shape.more) rest → others ≡ drop (1 + shape.more) rest → next ≡ next_context c word → new ≡ old ++ lexeme shape.form column word ∷ missing shape.form (column + length word) → old ++ words_from c column 0 rest ≡ words_from First 1 0 line → new ++ words_from next (column + length word) 0 others ≡ words_from First 1 0 line
word_step line [] after word others c next column shape old new some after_is plain shape_is le word_is others_are next_is new_is before = absurd (omega arith)
word_step line (b ∷ text) after word others c next column shape old new some after_is plain shape_is le word_is others_are next_is new_is before =
    let same : after ≡ text = after_is ∙ take_enough text (suc (length text) - 1) (omega arith) in
    let one : 1 + shape.more ≡ suc shape.more = omega arith in
    word_further line text word others c next column b shape old new plain (shape_is ∙ ap (shape_of c b) same) (omega (arith, le, ap length same)) (word_is ∙ ap (λ n. take n (b ∷ text)) one) (others_are ∙ ap (λ n. drop n (b ∷ text)) one) next_is new_is before

pub comment : (line : List ℕ) → is_comment line ≡ true → [] ≡ words_of line
unfolding words_of
comment line e = sym (ap (λ v. cond v [] (words_from First 1 0 line)) e)

pub no_comment : (line : List ℕ) → is_comment line ≡ false → words_of line ≡ words_from First 1 0 line
unfolding words_of
no_comment line e = ap (λ v. cond v [] (words_from First 1 0 line)) e
