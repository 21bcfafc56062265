-- The table of the bytes of names and numbers says what the definition says: a test that the checker computes.
use Rattle.std.proofs.Common.{◌≡◌, ℕ, ◌+◌, ◌<◌, zero, suc, Bool, true, false, List, [], ◌∷◌, length, refl, ap, arith, ◌∙◌}
use Rattle.std.specs.Prelude.{◌&&◌, not, nat_eq, slice_index}
use Rattle.widl_lines.specs.declared.word_bytes.TheConstants.{WORD_BYTES}
use Rattle.widl_lines.specs.Terminals.{is_word_byte}

agree : Bool → Bool → Bool
agree true b = b
agree false b = not b

-- the entries from the byte n on
fits : ℕ → List ℕ → Bool
fits n [] = true
fits n (v ∷ vs) = agree (nat_eq v 1) (is_word_byte n) && fits (n + 1) vs

all_fit : fits 0 WORD_BYTES ≡ true
unfolding fits agree
all_fit = refl

agreed : (a b : Bool) → agree a b ≡ true → a ≡ b
unfolding agree
agreed true true e = refl
agreed true false e = cc
agreed false true e = cc
agreed false false e = refl

first_true : (a b : Bool) → (a && b) ≡ true → a ≡ true
first_true true b e = refl
first_true false b e = cc

second_true : (a b : Bool) → (a && b) ≡ true → b ≡ true
second_true true b e = e
second_true false b e = cc

entry : (n k : ℕ) (vs : List ℕ) → fits n vs ≡ true → k < length vs → nat_eq (slice_index vs k) 1 ≡ is_word_byte (n + k)
unfolding fits
entry n k [] e lt = absurd (omega (arith, lt))
entry n zero (v ∷ vs) e lt =
    let here : n ≡ n + 0 = omega arith in
    agreed _ _ (first_true (agree (nat_eq v 1) (is_word_byte n)) (fits (n + 1) vs) e) ∙ ap is_word_byte here
entry n (suc k) (v ∷ vs) e lt =
    let next : n + 1 + k ≡ n + suc k = omega arith in
    entry (n + 1) k vs (second_true (agree (nat_eq v 1) (is_word_byte n)) (fits (n + 1) vs) e) (omega (arith, lt)) ∙ ap is_word_byte next

pub table : (byte : ℕ) → byte < 256 → nat_eq (slice_index WORD_BYTES byte) 1 ≡ is_word_byte byte
table byte lt =
    let here : 0 + byte ≡ byte = omega arith in
    entry 0 byte WORD_BYTES all_fit lt ∙ ap is_word_byte here
