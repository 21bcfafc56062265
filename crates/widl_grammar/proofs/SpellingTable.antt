-- The table of spellings has that of each quoted terminal, by a test that the checker computes; a search in it.
use Rattle.std.proofs.Common.{◌≡◌, ℕ, ◌+◌, ◌-◌, ◌<◌, ◌≤◌, zero, suc, Bool, true, false, List, [], ◌∷◌, Some, None, length, get_or, take, drop, refl, sym, ◌∙◌, ap, arith, nat_eq, eqb-true, Bor}
use Rattle.std.proofs.lemmas.List.{drop_more}
use Rattle.std.specs.Prelude.{◌&&◌, ◌≢◌, cond, map, slice_range}
use Rattle.std.specs.Str.{bytes_eq}
use Rattle.widl_grammar.specs.declared.terminal.Terminal.{Terminal}
use Rattle.widl_grammar.specs.Words.{spelling, is_spelled, quoted_among}

-- where the texts are the spellings of the terminals, so is each of them
pub spelling_at : (ts : List Terminal) (xs : List (Bor (List ℕ))) (k : ℕ) (t : Terminal) (d : Bor (List ℕ)) → map spelling ts ≡ map (λ x. Some x.now) xs → k < length ts → spelling (get_or ts k t) ≡ Some (get_or xs k d).now
spelling_at [] xs k t d e lt = absurd (omega arith)
spelling_at (s ∷ ts) [] k t d e lt = cc
spelling_at (s ∷ ts) (x ∷ xs) zero t d e lt = cc
spelling_at (s ∷ ts) (x ∷ xs) (suc k) t d e lt = let rest : map spelling ts ≡ map (λ x. Some x.now) xs = cc in spelling_at ts xs k t d rest (omega arith)

and_false : (a : Bool) → false ≡ (a && false)
and_false true = refl
and_false false = refl

-- texts of different lengths are different
differ_by_length : (x y : List ℕ) → length x ≢ length y → false ≡ bytes_eq x y
differ_by_length [] [] n = absurd (n refl)
differ_by_length [] (b ∷ y) n = refl
differ_by_length (a ∷ x) [] n = refl
differ_by_length (a ∷ x) (b ∷ y) n = and_false (nat_eq a b) ∙ ap (λ c. nat_eq a b && c) (differ_by_length x y (λ e. n (ap suc e)))

not_same : (m n : ℕ) → m ≢ n → nat_eq m n ≡ false
not_same m n h = go (nat_eq m n) refl
  where
    go : (c : Bool) → nat_eq m n ≡ c → nat_eq m n ≡ false
    go true e = absurd (h (eqb-true m n e))
    go false e = e

pub of_other_length : (x y : List ℕ) → length x ≢ length y → nat_eq (length x) (length y) ≡ bytes_eq x y
of_other_length x y n = not_same (length x) (length y) n ∙ differ_by_length x y n

first_of_range : (ts : List Terminal) (i j : ℕ) (t : Terminal) → i < j → i < length ts → slice_range ts i j ≡ get_or ts i t ∷ slice_range ts (i + 1) j
first_of_range ts i j t lt within =
    let count : j - i ≡ suc (j - (i + 1)) = omega (arith, lt) in
    ap (take (j - i)) (drop_more ts i t within) ∙ ap (λ n. take n (get_or ts i t ∷ drop (i + 1) ts)) count

-- a search among the terminals of a range of numbers, by whether the first of them is spelled so
among_from : (ts : List Terminal) (i j : ℕ) (t : Terminal) (word text : List ℕ) (c : Bool) → i < j → i < length ts → spelling (get_or ts i t) ≡ Some word → c ≡ bytes_eq word text → quoted_among (slice_range ts i j) text ≡ cond c (Some (get_or ts i t)) (quoted_among (slice_range ts (i + 1) j) text)
among_from ts i j t word text c lt within spelled is =
    ap (λ xs. quoted_among xs text) (first_of_range ts i j t lt within)
    ∙ ap (λ b. cond b (Some (get_or ts i t)) (quoted_among (slice_range ts (i + 1) j) text)) (ap (λ o. is_spelled o text) spelled ∙ sym is)

pub found_first : (ts : List Terminal) (i j : ℕ) (t : Terminal) (word text : List ℕ) (c : Bool) → i < j → i < length ts → spelling (get_or ts i t) ≡ Some word → c ≡ bytes_eq word text → c ≡ true → Some (get_or ts i t) ≡ quoted_among (slice_range ts i j) text
found_first ts i j t word text c lt within spelled is found = sym (among_from ts i j t word text c lt within spelled is ∙ ap (λ b. cond b (Some (get_or ts i t)) (quoted_among (slice_range ts (i + 1) j) text)) found)

pub found_later : (ts : List Terminal) (i j : ℕ) (t : Terminal) (word text : List ℕ) (c : Bool) → i < j → i < length ts → spelling (get_or ts i t) ≡ Some word → c ≡ bytes_eq word text → c ≡ false → quoted_among (slice_range ts i j) text ≡ quoted_among (slice_range ts (i + 1) j) text
found_later ts i j t word text c lt within spelled is other = among_from ts i j t word text c lt within spelled is ∙ ap (λ b. cond b (Some (get_or ts i t)) (quoted_among (slice_range ts (i + 1) j) text)) other

pub none_left : (ts : List Terminal) (i j : ℕ) (text : List ℕ) → j ≤ i → None ≡ quoted_among (slice_range ts i j) text
none_left ts i j text le = let none : 0 ≡ j - i = omega (arith, le) in ap (λ n. quoted_among (take n (drop i ts)) text) none
