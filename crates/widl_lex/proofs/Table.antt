-- The table follows the patterns, by tests that the checker computes.
use Rattle.std.proofs.Common.{◌≡◌, ℕ, zero, suc, ◌+◌, ◌<◌, ◌≤◌, Bool, true, false, Option, Some, None, List, [], ◌∷◌, ◌++◌, length, get_or, take, refl, sym, ◌∙◌, ap, subst, arith, eqb, eqb-true, eq-eqb, ltb, ltb-true, ltb-false, lit<, inl, inr}
use Rattle.std.specs.Prelude.{◌&&◌, MatchOption}
use Rattle.widl_lex.specs.Pattern.{Pattern, Never, Matches}
use Rattle.widl_lex.specs.declared.token.PieceKind.{PieceKind}
use Rattle.widl_lex.specs.declared.token.PieceKind.TheVariants.{Token, Gap}
use Rattle.widl_lex.specs.declared.token.TokenKind.TheVariants.{Quoted, Integer, Decimal, Identifier, Text, Other}
use Rattle.widl_lex.specs.Walk.{next_of, end_of, scanned, NoScan, IsLongestScan, better_of}
use Rattle.widl_lex.proofs.Computed.{and_cases, dec_below, all_below, all_at, alike, alike_is, AllBytes, all_take, all_right, take_more, take_from}
use Rattle.widl_lex.proofs.Derivative.{after, empties, empties_matches, matches_empties, after_from, after_to, same, same_true}
use Rattle.widl_lex.proofs.Labels.{labels}

abbrev pub kind_code : PieceKind → ℕ
kind_code (Token Quoted) = 0
kind_code (Token Integer) = 1
kind_code (Token Decimal) = 2
kind_code (Token Identifier) = 3
kind_code (Token Text) = 4
kind_code (Token Other) = 5
kind_code Gap = 6

unfoldable pub kind_of_code : ℕ → PieceKind
kind_of_code zero = Token Quoted
kind_of_code (suc zero) = Token Integer
kind_of_code (suc (suc zero)) = Token Decimal
kind_of_code (suc (suc (suc zero))) = Token Identifier
kind_of_code (suc (suc (suc (suc zero)))) = Token Text
kind_of_code (suc (suc (suc (suc (suc zero))))) = Token Other
kind_of_code (suc (suc (suc (suc (suc (suc n)))))) = Gap

code_back : (k : PieceKind) → kind_of_code (kind_code k) ≡ k
unfolding kind_of_code
code_back (Token Quoted) = refl
code_back (Token Integer) = refl
code_back (Token Decimal) = refl
code_back (Token Identifier) = refl
code_back (Token Text) = refl
code_back (Token Other) = refl
code_back Gap = refl

-- a test for each kind
unfoldable pub every : (PieceKind → Bool) → Bool
every p = all_below 7 (λ n. p (kind_of_code n))

code_below : (k : PieceKind) → kind_code k < 7
code_below (Token Quoted) = lit< tt
code_below (Token Integer) = lit< tt
code_below (Token Decimal) = lit< tt
code_below (Token Identifier) = lit< tt
code_below (Token Text) = lit< tt
code_below (Token Other) = lit< tt
code_below Gap = lit< tt

every_at : (p : PieceKind → Bool) → every p ≡ true → (k : PieceKind) → p k ≡ true
unfolding every
every_at p e k = sym (ap p (code_back k)) ∙ all_at 7 (λ n. p (kind_of_code n)) e (kind_code k) (code_below k)

-- whether the kind is the one that ends
unfoldable pub is_end : Option PieceKind → PieceKind → Bool
is_end None k = false
is_end (Some j) k = eqb (kind_code j) (kind_code k)

pub is_end_same : (o : Option PieceKind) (k : PieceKind) → is_end o k ≡ true → o ≡ Some k
unfolding is_end
is_end_same None k e = cc
is_end_same (Some j) k e = ap Some (sym (code_back j) ∙ ap kind_of_code (eqb-true _ _ e) ∙ code_back k)

pub is_end_self : (o : Option PieceKind) (k : PieceKind) → o ≡ Some k → is_end o k ≡ true
unfolding is_end
is_end_self None k e = cc
is_end_self (Some j) k e = eq-eqb _ _ (let f : j ≡ k = cc in ap kind_code f)

-- what the state still wants for the kind
abbrev pub label : ℕ → PieceKind → Pattern
label s k = get_or (get_or labels s []) (kind_code k) Never

pub label_start : (k : PieceKind) → label 0 k ≡ scanned k
label_start (Token Quoted) = refl
label_start (Token Integer) = refl
label_start (Token Decimal) = refl
label_start (Token Identifier) = refl
label_start (Token Text) = refl
label_start (Token Other) = refl
label_start Gap = refl

follows : ℕ → ℕ → Bool
follows s b = ltb (next_of s b) 38 && every (λ k. same (after b (label s k)) (label (next_of s b) k))

table_follows : all_below 38 (λ s. all_below 256 (λ b. follows s b)) ≡ true
unfolding all_below follows every same kind_of_code
table_follows = refl

follows_at : (s b : ℕ) → s < 38 → b < 256 → (ltb (next_of s b) 38 ≡ true) × (every (λ k. same (after b (label s k)) (label (next_of s b) k)) ≡ true)
unfolding follows
follows_at s b ls lb = and_cases (ltb (next_of s b) 38) _ (all_at 256 (λ c. follows s c) (all_at 38 (λ t. all_below 256 (λ c. follows t c)) table_follows s ls) b lb)

pub next_below : (s b : ℕ) → s < 38 → b < 256 → next_of s b < 38
next_below s b ls lb = ltb-true _ _ (follows_at s b ls lb).0

label_after : (s b : ℕ) (k : PieceKind) → s < 38 → b < 256 → after b (label s k) ≡ label (next_of s b) k
label_after s b k ls lb = same_true _ _ (every_at (λ j. same (after b (label s j)) (label (next_of s b) j)) (follows_at s b ls lb).1 k)

-- the kind that ends in a state is the one whose pattern wants nothing more
table_ends : all_below 38 (λ s. every (λ k. alike (empties (label s k)) (is_end (end_of s) k))) ≡ true
unfolding all_below every alike is_end kind_of_code
table_ends = refl

ends_at : (s : ℕ) (k : PieceKind) → s < 38 → empties (label s k) ≡ is_end (end_of s) k
ends_at s k ls = alike_is _ _ (every_at (λ j. alike (empties (label s j)) (is_end (end_of s) j)) (all_at 38 (λ t. every (λ j. alike (empties (label t j)) (is_end (end_of t) j))) table_ends s ls) k)

pub dead_stays : (b : ℕ) → b < 256 → next_of 11 b ≡ 11
dead_stays b lt = eqb-true _ _ (all_at 256 (λ c. eqb (next_of 11 c) 11) table_dead b lt)
  where
    table_dead : all_below 256 (λ c. eqb (next_of 11 c) 11) ≡ true
    table_dead = unfold all_below in refl

-- the state after some bytes
abbrev pub run : ℕ → List ℕ → ℕ
run s [] = s
run s (b ∷ w) = run (next_of s b) w

pub run-append : (s : ℕ) (u v : List ℕ) → run s (u ++ v) ≡ run (run s u) v
run-append s [] v = refl
run-append s (b ∷ u) v = run-append (next_of s b) u v

pub run_below : (w : List ℕ) (s : ℕ) → s < 38 → AllBytes w → run s w < 38
run_below [] s ls all = ls
run_below (b ∷ w) s ls all = run_below w (next_of s b) (next_below s b ls all.0) all.1

run_dead : (w : List ℕ) → AllBytes w → run 11 w ≡ 11
run_dead [] all = refl
run_dead (b ∷ w) all = ap (λ s. run s w) (dead_stays b all.0) ∙ run_dead w all.1

matches_run : (w : List ℕ) (s : ℕ) (k : PieceKind) → s < 38 → AllBytes w → Matches (label s k) w → empties (label (run s w) k) ≡ true
matches_run [] s k ls all m = matches_empties m refl
matches_run (b ∷ w) s k ls all m = matches_run w (next_of s b) k (next_below s b ls all.0) all.1 (subst (λ x. Matches x w) (label_after s b k ls all.0) (after_to m b w refl))

run_matches : (w : List ℕ) (s : ℕ) (k : PieceKind) → s < 38 → AllBytes w → empties (label (run s w) k) ≡ true → Matches (label s k) w
run_matches [] s k ls all e = empties_matches (label s k) e
run_matches (b ∷ w) s k ls all e = after_from b (label s k) w (subst (λ x. Matches x w) (sym (label_after s b k ls all.0)) (run_matches w (next_of s b) k (next_below s b ls all.0) all.1 e))

-- bytes match a kind exactly where the state after them ends it
pub scan_ends : (k : PieceKind) (w : List ℕ) → AllBytes w → Matches (scanned k) w → end_of (run 0 w) ≡ Some k
scan_ends k w all m = is_end_same _ k (sym (ends_at (run 0 w) k (run_below w 0 (lit< tt) all)) ∙ matches_run w 0 k (lit< tt) all (subst (λ p. Matches p w) (sym (label_start k)) m))

pub ends_scan : (k : PieceKind) (w : List ℕ) → AllBytes w → end_of (run 0 w) ≡ Some k → Matches (scanned k) w
ends_scan k w all e = subst (λ p. Matches p w) (label_start k) (run_matches w 0 k (lit< tt) all (ends_at (run 0 w) k (run_below w 0 (lit< tt) all) ∙ is_end_self _ k e))

-- the best among the first bytes, as far as the loop has come
abbrev pub Best : Option (ℕ × PieceKind) → ℕ → List ℕ → Type 0
Best None place w = (m : ℕ) (k : PieceKind) → 0 < m → m ≤ place → Matches (scanned k) (take m w) → ⊥
Best (Some r) place w = (r.0 ≤ place) × (0 < r.0) × Matches (scanned r.1) (take r.0 w) × ((m : ℕ) (k : PieceKind) → r.0 < m → m ≤ place → Matches (scanned k) (take m w) → ⊥)

none_some : {X : Type 0} {x : X} → None ≡ Some x → ⊥
none_some e = cc

-- a kind that ends at two places in a row is best at the second
better_again : (best : Option (ℕ × PieceKind)) (p q : ℕ) (end : Option PieceKind) → better_of (better_of best p end) q end ≡ better_of best q end
better_again best p q None = refl
better_again best p q (Some k) = refl

module _ (w : List ℕ) (all : AllBytes w) where
  pub run_more : (p : ℕ) (s t : ℕ) → p < length w → s ≡ run 0 (take p w) → t ≡ next_of s (get_or w p 0) → t ≡ run 0 (take (p + 1) w)
  run_more p s t lt e f = let one : p + 1 ≡ suc p = omega arith in f ∙ ap (λ x. next_of x (get_or w p 0)) e ∙ sym (run-append 0 (take p w) (get_or w p 0 ∷ [])) ∙ sym (ap (run 0) (ap (λ i. take i w) one ∙ take_more w p lt))

  at_place : (k : PieceKind) (m p : ℕ) (end : Option PieceKind) → end ≡ end_of (run 0 (take p w)) → m ≡ p → Matches (scanned k) (take m w) → end ≡ Some k
  at_place k m p end e is match = e ∙ scan_ends k (take p w) (all_take p w all) (subst (λ x. Matches (scanned k) (take x w)) is match)

  kept : (best : Option (ℕ × PieceKind)) (p : ℕ) → None ≡ end_of (run 0 (take (p + 1) w)) → Best best p w → Best best (p + 1) w
  kept None p e b = λ m k pos le match. elim (dec_below m (p + 1) (omega arith)) [
    | inl lt ↦ b m k pos (omega arith) match
    | inr is ↦ none_some (at_place k m (p + 1) None e is match)
  ]
  kept (Some r) p e b = (
    omega (arith, b.0),
    b.1,
    b.2,
    λ m k pos le match. elim (dec_below m (p + 1) (omega arith)) [
      | inl lt ↦ b.3 m k pos (omega arith) match
      | inr is ↦ none_some (at_place k m (p + 1) None e is match)
    ],
  )

  pub better_kept : (best : Option (ℕ × PieceKind)) (p : ℕ) (end : Option PieceKind) → end ≡ end_of (run 0 (take (p + 1) w)) → Best best p w → Best (better_of best (p + 1) end) (p + 1) w
  better_kept best p None e b = kept best p e b
  better_kept best p (Some k) e b = (omega arith, omega arith, ends_scan k (take (p + 1) w) (all_take (p + 1) w all) (sym e), λ m j pos le match. absurd (omega arith))

  -- the loop stops in the dead state, or at the end
  pub best_done : (best : Option (ℕ × PieceKind)) (p : ℕ) → p ≤ length w → ((m : ℕ) (k : PieceKind) → p < m → m ≤ length w → Matches (scanned k) (take m w) → ⊥) → Best best p w → MatchOption best (NoScan w) (λ r. IsLongestScan r.1 r.0 w)
  best_done None p le nope b = λ m k pos lm match. go (ltb p m) m k refl pos lm match
    where
      go : (c : Bool) → (m : ℕ) (k : PieceKind) → ltb p m ≡ c → 0 < m → m ≤ length w → Matches (scanned k) (take m w) → ⊥
      go true m k h pos lm match = nope m k (ltb-true _ _ h) lm match
      go false m k h pos lm match = b m k pos (omega (arith, ltb-false p m h)) match
  best_done (Some r) p le nope b = record { within = omega (arith, b.0); some = b.1; scan = b.2; longest = λ m k pos lm match. go (ltb p m) m k refl pos lm match }
    where
      go : (c : Bool) → (m : ℕ) (k : PieceKind) → ltb p m ≡ c → r.0 < m → m ≤ length w → Matches (scanned k) (take m w) → ⊥
      go true m k h pos lm match = nope m k (ltb-true _ _ h) lm match
      go false m k h pos lm match = b.3 m k pos (omega (arith, ltb-false p m h)) match

  pub dead_no : (p s : ℕ) → s ≡ run 0 (take (p + 1) w) → s ≡ 11 → (m : ℕ) (k : PieceKind) → p < m → m ≤ length w → Matches (scanned k) (take m w) → ⊥
  dead_no p s e is m k lt lm match =
      let cut = take_from w (p + 1) m (omega arith) in
      let all_m = subst AllBytes cut.1 (all_take m w all) in
      let dead : run 0 (take m w) ≡ 11 = ap (run 0) cut.1 ∙ run-append 0 (take (p + 1) w) cut.0 ∙ ap (λ x. run x cut.0) (sym e ∙ is) ∙ run_dead cut.0 (all_right (take (p + 1) w) cut.0 all_m) in
      let nothing_ends : end_of 11 ≡ Some k = subst (λ x. end_of x ≡ Some k) dead (scan_ends k (take m w) (all_take m w all) match) in
      none_some nothing_ends

  -- bytes that keep the state: it is the state behind each of them
  run_kept : (d p q s : ℕ) → q ≡ p + d → q ≤ length w → s ≡ run 0 (take p w) → ((i : ℕ) → p ≤ i → i < q → next_of s (get_or w i 0) ≡ s) → s ≡ run 0 (take q w)
  run_kept zero p q s is le e keep = e ∙ ap (λ i. run 0 (take i w)) (omega (arith, is))
  run_kept (suc d) p q s is le e keep =
      let before = run_kept d p (p + d) s refl (omega (arith, is)) e (λ i from to. keep i from (omega (arith, is))) in
      run_more (p + d) s s (omega (arith, is)) before (sym (keep (p + d) (omega arith) (omega (arith, is)))) ∙ ap (λ i. run 0 (take i w)) (omega (arith, is))

  -- a run ends as its last byte does
  pub best_run : (best : Option (ℕ × PieceKind)) (d p q s : ℕ) → q ≡ p + 1 + d → q ≤ length w → s ≡ run 0 (take (p + 1) w) → ((i : ℕ) → p + 1 ≤ i → i < q → next_of s (get_or w i 0) ≡ s) → Best best p w → (s ≡ run 0 (take q w)) × Best (better_of best q (end_of s)) q w
  best_run best zero p q s is le e keep b =
      let here : p + 1 ≡ q = omega (arith, is) in
      (e ∙ ap (λ i. run 0 (take i w)) here, subst (λ i. Best (better_of best i (end_of s)) i w) here (better_kept best p (end_of s) (ap end_of e) b))
  best_run best (suc d) p q s is le e keep b =
      let here : p + 1 + d + 1 ≡ q = omega (arith, is) in
      let at = run_kept (suc d) (p + 1) q s is le e keep in
      let before = best_run best d p (p + 1 + d) s refl (omega (arith, is)) e (λ i from to. keep i from (omega (arith, is))) b in
      let end_is : end_of s ≡ end_of (run 0 (take (p + 1 + d + 1) w)) = ap end_of at ∙ ap (λ i. end_of (run 0 (take i w))) (sym here) in
      (at, subst (λ i. Best (better_of best i (end_of s)) i w) here (subst (λ x. Best x (p + 1 + d + 1) w) (better_again best (p + 1 + d) (p + 1 + d + 1) (end_of s)) (better_kept (better_of best (p + 1 + d) (end_of s)) (p + 1 + d) (end_of s) end_is before.1)))
