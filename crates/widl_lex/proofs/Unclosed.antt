-- A block comment that begins ends exactly where a `*/` follows.
use Rattle.std.proofs.Common.{◌≡◌, ℕ, zero, suc, ◌+◌, ◌<◌, ◌≤◌, Bool, true, false, Some, List, [], ◌∷◌, length, take, drop, refl, sym, ◌∙◌, ap, subst, arith, eqb, eqb-true, eq-eqb, lit<, if◌then◌else◌}
use Rattle.std.specs.Prelude.{◌&&◌, not, slice_index}
use Rattle.std.proofs.lemmas.List.{get_or-drop}
use Rattle.widl_lex.specs.declared.token.PieceKind.{PieceKind}
use Rattle.widl_lex.specs.declared.token.PieceKind.TheVariants.{Token, Gap}
use Rattle.widl_lex.specs.declared.token.TokenKind.TheVariants.{Other}
use Rattle.widl_lex.specs.Pattern.{Matches}
use Rattle.widl_lex.specs.Comments.{OpensComment, NeverCloses}
use Rattle.widl_lex.specs.Cut.{Longest}
use Rattle.widl_lex.specs.Quoted.{IsQuoted, quoted_terminals}
use Rattle.widl_lex.specs.Walk.{next_of, end_of, scanned}
use Rattle.widl_lex.proofs.Computed.{and_cases, all_below, all_at, AllBytes, all_take, differ}
use Rattle.widl_lex.proofs.Table.{run, is_end, is_end_same, scan_ends, ends_scan}
use Rattle.widl_lex.proofs.Scans.{piece_scan, scan_is_piece}
use Rattle.widl_lex.proofs.QuotedTable.{passes, passes_contained}
use Rattle.widl_lex.proofs.Labels.{in_comment, after_star}

-- the states inside a comment, with whether the last byte was a star
abbrev pub inside : Bool → ℕ
inside false = in_comment
inside true = after_star

star : ℕ → Bool
star b = eqb b 42

-- inside a comment each byte leads to the inside, but the `/` behind a star
step_fine : Bool → ℕ → Bool
step_fine starred b = if starred && eqb b 47 then is_end (end_of (next_of (inside starred) b)) Gap else eqb (next_of (inside starred) b) (inside (star b))

table_unstarred : all_below 256 (step_fine false) ≡ true
unfolding all_below step_fine star is_end
table_unstarred = refl

table_starred : all_below 256 (step_fine true) ≡ true
unfolding all_below step_fine star is_end
table_starred = refl

step_at : (s : Bool) (b : ℕ) → b < 256 → step_fine s b ≡ true
step_at false b lt = all_at 256 (step_fine false) table_unstarred b lt
step_at true b lt = all_at 256 (step_fine true) table_starred b lt

choose_true : (b c d : Bool) → (if b then c else d) ≡ true → b ≡ true → c ≡ true
choose_true true c d e f = e
choose_true false c d e f = cc

choose_false : (b c d : Bool) → (if b then c else d) ≡ true → (b ≡ true → ⊥) → d ≡ true
choose_false true c d e f = absurd (f refl)
choose_false false c d e f = e

-- the `/` behind a star ends the comment
step_ends : end_of (next_of (inside true) 47) ≡ Some Gap
unfolding step_fine
step_ends = is_end_same _ Gap (choose_true (true && eqb 47 47) (is_end (end_of (next_of (inside true) 47)) Gap) (eqb (next_of (inside true) 47) (inside (star 47))) (step_at true 47 (lit< tt)) refl)

step_on : (s : Bool) (b : ℕ) → b < 256 → (s ≡ true → b ≡ 47 → ⊥) → next_of (inside s) b ≡ inside (star b)
unfolding step_fine
step_on s b lt go_on = eqb-true _ _ (choose_false (s && eqb b 47) (is_end (end_of (next_of (inside s) b)) Gap) (eqb (next_of (inside s) b) (inside (star b))) (step_at s b lt) (λ e. let h = and_cases s (eqb b 47) e in go_on h.0 (eqb-true b 47 h.1)))

-- no star and slash in a row, the byte before the text counted
NoClose : Bool → List ℕ → Type 0
NoClose starred [] = Unit {0}
NoClose starred (b ∷ w) = (starred ≡ true → b ≡ 47 → ⊥) × NoClose (star b) w

inside_ends_none : (s : Bool) (k : PieceKind) → end_of (inside s) ≡ Some k → ⊥
inside_ends_none false k e = cc
inside_ends_none true k e = cc

-- where nothing closes, no kind ends
stays : (w : List ℕ) (s : Bool) → AllBytes w → NoClose s w → (m : ℕ) (k : PieceKind) → end_of (run (inside s) (take m w)) ≡ Some k → ⊥
unfolding NoClose
stays [] s all quiet m k e = inside_ends_none s k (subst (λ x. end_of (run (inside s) x) ≡ Some k) (take_nil m) e)
  where
    take_nil : (n : ℕ) → take {A = ℕ} n [] ≡ []
    take_nil zero = refl
    take_nil (suc n) = refl
stays (b ∷ w) s all quiet zero k e = inside_ends_none s k e
stays (b ∷ w) s all quiet (suc m) k e = stays w (star b) all.1 quiet.1 m k (subst (λ x. end_of (run x (take m w)) ≡ Some k) (step_on s b all.0 quiet.0) e)

-- in terms of the bytes' numbers
star_is : (b : ℕ) → star b ≡ true → b ≡ 42
unfolding star
star_is b e = eqb-true b 42 e

no_close : (w : List ℕ) (prev : ℕ) → ((i : ℕ) → slice_index (prev ∷ w) i ≡ 42 → slice_index (prev ∷ w) (suc i) ≡ 47 → ⊥) → NoClose (star prev) w
unfolding NoClose
no_close [] prev h = tt
no_close (b ∷ w) prev h = (λ s e. h 0 (star_is prev s) e, no_close w b (λ i e f. h (suc i) e f))

-- a star and a slash end the comment
pub record Closing (s : Bool) (w : List ℕ) (limit : ℕ) : Type 0 where
  pub length_of : ℕ
  pub some : 0 < length_of
  pub soon : length_of ≤ limit
  pub within : length_of ≤ length w
  pub ends : end_of (run (inside s) (take length_of w)) ≡ Some Gap

ends_at : (s : Bool) (b : ℕ) → s ≡ true → b ≡ 47 → end_of (next_of (inside s) b) ≡ Some Gap
ends_at s b e f = subst (λ x. end_of (next_of (inside x) b) ≡ Some Gap) (sym e) (subst (λ x. end_of (next_of (inside true) x) ≡ Some Gap) (sym f) step_ends)

close_now : (s : Bool) (b : ℕ) (w : List ℕ) (limit : ℕ) → 0 < limit → s ≡ true → b ≡ 47 → Closing s (b ∷ w) limit
close_now s b w limit pos e f = record { length_of = 1; some = lit< tt; soon = omega arith; within = omega arith; ends = ends_at s b e f }

close_later : (s t : Bool) (b : ℕ) (w : List ℕ) (limit : ℕ) → next_of (inside s) b ≡ inside t → Closing t w limit → Closing s (b ∷ w) (suc limit)
close_later s t b w limit on c = record {
  length_of = suc c.length_of;
  some = omega arith;
  soon = omega (arith, c.soon);
  within = omega (arith, c.within);
  ends = ap (λ x. end_of (run x (take c.length_of w))) on ∙ c.ends;
}

star_of : (b : ℕ) → b ≡ 42 → star b ≡ true
unfolding star
star_of b e = eq-eqb b 42 e

close_soon : (w : List ℕ) (t : Bool) → t ≡ true → slice_index w 0 ≡ 47 → Closing t w 1
close_soon [] t e f = absurd (let z : ◌≡◌ {A = ℕ} 0 47 = f in cc)
close_soon (b ∷ w) t e f = close_now t b w 1 (lit< tt) e f

is_close : (s : Bool) (b : ℕ) → (s && eqb b 47) ≡ true → (s ≡ true) × (b ≡ 47)
is_close s b e = let h = and_cases s (eqb b 47) e in (h.0, eqb-true b 47 h.1)

not_close : (s : Bool) (b : ℕ) → (s && eqb b 47) ≡ false → s ≡ true → b ≡ 47 → ⊥
not_close true b e f g = differ (sym (eq-eqb b 47 g) ∙ e)
not_close false b e f g = cc

closes_at : (w : List ℕ) (s : Bool) (i : ℕ) → AllBytes w → slice_index w i ≡ 42 → slice_index w (suc i) ≡ 47 → Closing s w (suc (suc i))
closes_at [] s i all e f = absurd (let z : ◌≡◌ {A = ℕ} 0 42 = e in cc)
closes_at (b ∷ w) s zero all e f = go (s && eqb b 47) refl
  where
    go : (c : Bool) → (s && eqb b 47) ≡ c → Closing s (b ∷ w) 2
    go true g = let h = is_close s b g in close_now s b w 2 (lit< tt) h.0 h.1
    go false g = close_later s (star b) b w 1 (step_on s b all.0 (not_close s b g)) (close_soon w (star b) (star_of b e) f)
closes_at (b ∷ w) s (suc i) all e f = go (s && eqb b 47) refl (closes_at w (star b) i all.1 e f)
  where
    go : (c : Bool) → (s && eqb b 47) ≡ c → Closing (star b) w (suc (suc i)) → Closing s (b ∷ w) (suc (suc (suc i)))
    go true g r = let h = is_close s b g in close_now s b w (suc (suc (suc i))) (omega arith) h.0 h.1
    go false g r = close_later s (star b) b w (suc (suc i)) (step_on s b all.0 (not_close s b g)) r

-- a text that begins with a comment
begins : (text : List ℕ) → OpensComment text → (rest : List ℕ) × (text ≡ 47 ∷ 42 ∷ rest)
begins [] o = absurd (let z : ◌≡◌ {A = ℕ} 0 47 = o.0 in cc)
begins (a ∷ []) o = absurd (let z : ◌≡◌ {A = ℕ} 0 42 = o.1 in cc)
begins (a ∷ b ∷ rest) o = (rest, ap (λ x. x ∷ b ∷ rest) o.0 ∙ ap (λ x. 47 ∷ x ∷ rest) o.1)

-- its first byte alone is a piece, and where nothing closes it is the longest
slash : Matches (scanned (Token Other)) (47 ∷ [])
slash = ends_scan (Token Other) (47 ∷ []) (lit< tt, tt) refl

no_longer : (rest : List ℕ) → AllBytes rest → NoClose false rest → (m : ℕ) (k : PieceKind) → 1 < m → end_of (run 0 (take m (47 ∷ 42 ∷ rest))) ≡ Some k → ⊥
no_longer rest all quiet zero k lt e = omega arith
no_longer rest all quiet (suc zero) k lt e = omega arith
no_longer rest all quiet (suc (suc m)) k lt e = stays rest false all quiet m k e

is_slash : List ℕ → Bool
is_slash (b ∷ []) = eqb b 47
is_slash _ = false

table_no_slash : passes (λ w. not (is_slash w)) quoted_terminals ≡ true
unfolding passes is_slash
table_no_slash = refl

slash_not_quoted : IsQuoted (47 ∷ []) → ⊥
unfolding is_slash
slash_not_quoted q = differ (sym (passes_contained (λ w. not (is_slash w)) quoted_terminals (47 ∷ []) table_no_slash q))

unclosed_rest : (rest : List ℕ) → AllBytes rest → NoClose false rest → Longest (Token Other) 1 (47 ∷ 42 ∷ rest)
unclosed_rest rest all quiet = record {
  within = omega arith;
  some = lit< tt;
  piece = slash;
  longest = λ m k lt le p. let bytes = all_take m (47 ∷ 42 ∷ rest) (lit< tt, (lit< tt, all)) in let j = piece_scan k (take m (47 ∷ 42 ∷ rest)) bytes p in no_longer rest all quiet m j.0 lt (scan_ends j.0 (take m (47 ∷ 42 ∷ rest)) bytes j.1);
  tie = λ q. absurd (slash_not_quoted q);
}

never_rest : (rest : List ℕ) → NeverCloses (47 ∷ 42 ∷ rest) → NoClose false rest
unfolding star
never_rest rest never = no_close rest 0 (λ i e f. go i e f)
  where
    go : (i : ℕ) → slice_index (0 ∷ rest) i ≡ 42 → slice_index (0 ∷ rest) (suc i) ≡ 47 → ⊥
    go zero e f = let z : ◌≡◌ {A = ℕ} 0 42 = e in cc
    go (suc i) e f = never (suc (suc i)) (omega arith) e (subst (λ n. slice_index (47 ∷ 42 ∷ rest) n ≡ 47) (let one : suc (suc (suc i)) ≡ suc (suc i) + 1 = omega arith in one) f)

pub unclosed_longest : (text : List ℕ) → AllBytes text → OpensComment text → NeverCloses text → Longest (Token Other) 1 text
unclosed_longest text all opens never =
    let b = begins text opens in
    subst (Longest (Token Other) 1) (sym b.1) (unclosed_rest b.0 (subst AllBytes b.1 all).1.1 (never_rest b.0 (subst NeverCloses b.1 never)))

-- where the first byte of a comment is the longest piece, no `*/` is left
pub one_byte_never : (text : List ℕ) (kind : PieceKind) → AllBytes text → OpensComment text → Longest kind 1 text → NeverCloses (drop 1 text)
one_byte_never text kind all opens long =
    let b = begins text opens in
    subst (λ t. NeverCloses (drop 1 t)) (sym b.1) (never b.0 (subst AllBytes b.1 all) (subst (Longest kind 1) b.1 long))
  where
    never : (rest : List ℕ) → AllBytes (47 ∷ 42 ∷ rest) → Longest kind 1 (47 ∷ 42 ∷ rest) → NeverCloses (42 ∷ rest)
    never rest bytes longest zero pos e f = omega arith
    never rest bytes longest (suc i) pos e f =
        let g : slice_index rest (suc i) ≡ 47 = subst (λ n. slice_index (42 ∷ rest) n ≡ 47) (let one : suc i + 1 ≡ suc (suc i) = omega arith in one) f in
        let c = closes_at rest false i bytes.1.1 e g in
        let m = suc (suc c.length_of) in
        let scan = ends_scan Gap (take (suc (suc c.length_of)) (47 ∷ 42 ∷ rest)) (all_take (suc (suc c.length_of)) (47 ∷ 42 ∷ rest) bytes) c.ends in
        longest.longest (suc (suc c.length_of)) Gap (omega (arith, c.some)) (omega (arith, c.within)) (scan_is_piece Gap _ scan)

slice_index-drop : (n : ℕ) (w : List ℕ) (i : ℕ) → slice_index (drop n w) i ≡ slice_index w (n + i)
slice_index-drop n w i = get_or-drop n w i 0

pub never_drop : (n : ℕ) (text : List ℕ) → NeverCloses text → NeverCloses (drop n text)
never_drop n text never i pos e f = never (n + i) (omega arith) (sym (slice_index-drop n text i) ∙ e) (let one : n + i + 1 ≡ n + (i + 1) = omega arith in ap (slice_index text) one ∙ sym (slice_index-drop n text (i + 1)) ∙ f)
