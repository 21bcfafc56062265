-- Every UTF-8 text has a scan at its front, and a longest scan ends between two characters.
use Rattle.std.proofs.Common.{◌≡◌, ℕ, suc, ◌/◌, ◌%◌, ◌^◌, ◌<◌, ◌≤◌, Bool, true, false, Option, Some, None, List, [], ◌∷◌, ◌++◌, length, get_or, take, drop, refl, sym, ◌∙◌, ap, subst, arith, eqb, eqb-true, eq-eqb, lit<, inl, inr, if◌then◌else◌, take-append-drop, append-nil}
use Rattle.std.specs.Prelude.{◌&&◌, ◌||◌, not, is_some, IsUtf8}
use Rattle.widl_lex.specs.Pattern.{Matches}
use Rattle.widl_lex.specs.declared.token.PieceKind.{PieceKind}
use Rattle.widl_lex.specs.Walk.{next_of, end_of, utf8_next_of, scanned, NoScan, IsLongestScan}
use Rattle.widl_lex.proofs.Computed.{and_cases, or_cases, if_true, differ, all_below, all_at, AllBytes, all_left, all_right, all_take, length_take}
use Rattle.widl_lex.proofs.Table.{run, run_below, run-append, next_below, scan_ends, ends_scan}
use Rattle.widl_lex.proofs.Characters.{utf8_run, utf8_run-append, utf8_run_below, utf8_next_below, utf8_alive, utf8_zero, zero_utf8}
use Rattle.widl_lex.proofs.Utf8Table.{beside, within_first}

-- whether the bit is set
has : ℕ → ℕ → Bool
has bits k = eqb (bits / (2 ^ k) % 2) 1

-- whether a kind ends in the state
ends : ℕ → Bool
ends s = is_some (end_of s)

-- where a kind ends inside a character, a kind ends again after each byte that UTF-8 allows next
pair_fine : ℕ → ℕ → ℕ → Bool
pair_fine s u b = eqb (utf8_next_of u b) 1 || (has (get_or beside (utf8_next_of u b) 0) (next_of s b) && (eqb u 0 || (not (ends s) || ends (next_of s b))))

pairs : all_below 38 (λ s. all_below 9 (λ u. if has (get_or beside u 0) s then all_below 256 (λ b. pair_fine s u b) else true)) ≡ true
unfolding all_below pair_fine has ends
pairs = refl

-- within the first character a kind ends at the latest where the character ends
first_fine : ℕ → ℕ → ℕ → Bool
first_fine s u b = eqb (utf8_next_of u b) 1 || (if eqb (utf8_next_of u b) 0 then ends (next_of s b) else has (get_or within_first (utf8_next_of u b) 0) (next_of s b))

firsts : all_below 38 (λ s. all_below 9 (λ u. if has (get_or within_first u 0) s then all_below 256 (λ b. first_fine s u b) else true)) ≡ true
unfolding all_below first_fine has ends
firsts = refl

start_in : has (get_or beside 0 0) 0 ≡ true
unfolding has
start_in = refl

start_first : has (get_or within_first 0 0) 0 ≡ true
unfolding has
start_first = refl

ends_kind : (o : Option PieceKind) → is_some o ≡ true → (k : PieceKind) × (o ≡ Some k)
ends_kind None e = cc
ends_kind (Some k) e = (k, refl)

kind_ends : (o : Option PieceKind) (k : PieceKind) → o ≡ Some k → is_some o ≡ true
kind_ends None k e = cc
kind_ends (Some j) k e = refl

not_true : (b : Bool) → not b ≡ true → b ≡ true → ⊥
not_true true e f = cc
not_true false e f = cc

pair_step : (s u b : ℕ) → s < 38 → u < 9 → b < 256 → has (get_or beside u 0) s ≡ true → (utf8_next_of u b ≡ 1 → ⊥) → (has (get_or beside (utf8_next_of u b) 0) (next_of s b) ≡ true) × ((eqb u 0 || (not (ends s) || ends (next_of s b))) ≡ true)
unfolding pair_fine
pair_step s u b ls lu lb h alive =
    let row = all_at 9 (λ v. if has (get_or beside v 0) s then all_below 256 (λ c. pair_fine s v c) else true) (all_at 38 (λ t. all_below 9 (λ v. if has (get_or beside v 0) t then all_below 256 (λ c. pair_fine t v c) else true)) pairs s ls) u lu in
    let cell = all_at 256 (λ c. pair_fine s u c) (if_true _ _ row h) b lb in
    elim (or_cases (eqb (utf8_next_of u b) 1) _ cell) [ inl dead ↦ absurd (alive (eqb-true _ _ dead)) | inr good ↦ and_cases _ _ good ]

alive_next : (u b : ℕ) (w : List ℕ) → AllBytes w → utf8_run u (b ∷ w) ≡ 0 → utf8_next_of u b ≡ 1 → ⊥
alive_next u b w all e dead = utf8_alive (utf8_next_of u b) w all e dead

-- the states of both tables stand beside each other, as long as a text can still be completed
pair_at : (w rest : List ℕ) (s u : ℕ) → s < 38 → u < 9 → AllBytes (w ++ rest) → has (get_or beside u 0) s ≡ true → utf8_run u (w ++ rest) ≡ 0 → has (get_or beside (utf8_run u w) 0) (run s w) ≡ true
pair_at [] rest s u ls lu all h whole = h
pair_at (b ∷ w) rest s u ls lu all h whole =
    pair_at w rest (next_of s b) (utf8_next_of u b) (next_below s b ls all.0) (utf8_next_below u b lu all.0) all.1 (pair_step s u b ls lu all.0 h (alive_next u b (w ++ rest) all.1 whole)).0 whole

-- one byte more than the first n
one_more : (x : List ℕ) (b : ℕ) (y : List ℕ) → take (suc (length x)) (x ++ b ∷ y) ≡ x ++ b ∷ []
one_more [] b y = refl
one_more (a ∷ x) b y = ap (λ u. a ∷ u) (one_more x b y)

shorter : (x : List ℕ) (b : ℕ) (y : List ℕ) → length x < length (x ++ b ∷ y)
shorter [] b y = omega arith
shorter (a ∷ x) b y = omega (arith, shorter x b y)

-- where a kind ends and none ends one byte later, a character ends too
at_boundary : (x y text : List ℕ) (k : PieceKind) → text ≡ x ++ y → AllBytes (x ++ y) → utf8_run 0 (x ++ y) ≡ 0 → Matches (scanned k) x → ((j : PieceKind) → length x < length text → Matches (scanned j) (take (suc (length x)) text) → ⊥) → utf8_run 0 x ≡ 0
at_boundary x [] text k e all whole scan none_longer = ap (utf8_run 0) (sym (append-nil x)) ∙ whole
at_boundary x (b ∷ y) text k e all whole scan none_longer =
    let ax = all_left x (b ∷ y) all in
    let ay = all_right x (b ∷ y) all in
    let ls : run 0 x < 38 = run_below x 0 (lit< tt) ax in
    let lu : utf8_run 0 x < 9 = utf8_run_below x 0 (lit< tt) ax in
    let tail : utf8_run (utf8_run 0 x) (b ∷ y) ≡ 0 = sym (utf8_run-append 0 x (b ∷ y)) ∙ whole in
    let h : has (get_or beside (utf8_run 0 x) 0) (run 0 x) ≡ true = pair_at x (b ∷ y) 0 0 (lit< tt) (lit< tt) all start_in whole in
    let step = pair_step (run 0 x) (utf8_run 0 x) b ls lu ay.0 h (alive_next (utf8_run 0 x) b y ay.1 tail) in
    elim (or_cases (eqb (utf8_run 0 x) 0) _ step.1) [
      | inl zero_is ↦ eqb-true _ _ zero_is
      | inr other ↦ elim (or_cases (not (ends (run 0 x))) _ other) [
        | inl no_kind ↦ absurd (not_true (ends (run 0 x)) no_kind (ends_true (run 0 x) k (scan_ends k x ax scan)))
        | inr goes_on ↦
            let j = ends_found (next_of (run 0 x) b) goes_on in
            let longer : take (suc (length x)) text ≡ x ++ b ∷ [] = ap (take (suc (length x))) e ∙ one_more x b y in
            let ab : AllBytes (x ++ b ∷ []) = subst AllBytes longer (all_take (suc (length x)) text (subst AllBytes (sym e) all)) in
            absurd (none_longer j.0 (subst (λ t. length x < length t) (sym e) (shorter x b y)) (subst (Matches (scanned j.0)) (sym longer) (ends_scan j.0 (x ++ b ∷ []) ab (ap end_of (run-append 0 x (b ∷ [])) ∙ j.1))))
      ]
    ]
  where
    ends_true : (s : ℕ) (i : PieceKind) → end_of s ≡ Some i → ends s ≡ true
    ends_true s i f = unfold ends in kind_ends (end_of s) i f

    ends_found : (s : ℕ) → ends s ≡ true → (i : PieceKind) × (end_of s ≡ Some i)
    ends_found s f = unfold ends in ends_kind (end_of s) f

-- a longest scan and what it leaves are UTF-8
pub scan_utf8 : (text : List ℕ) (k : PieceKind) (n : ℕ) → AllBytes text → IsUtf8 text → IsLongestScan k n text → IsUtf8 (take n text) × IsUtf8 (drop n text)
scan_utf8 text k n all u long =
    let cut : text ≡ take n text ++ drop n text = sym (take-append-drop n text) in
    let len : length (take n text) ≡ n = length_take n text long.within in
    let both = subst AllBytes cut all in
    let whole : utf8_run 0 (take n text ++ drop n text) ≡ 0 = sym (ap (utf8_run 0) cut) ∙ utf8_zero text u in
    let here : utf8_run 0 (take n text) ≡ 0 = at_boundary (take n text) (drop n text) text k cut both whole long.scan (λ j lt scan. long.longest (suc (length (take n text))) j (omega (arith, len)) (omega arith) scan) in
    let after : utf8_run 0 (drop n text) ≡ 0 = ap (λ x. utf8_run x (drop n text)) (sym here) ∙ sym (utf8_run-append 0 (take n text) (drop n text)) ∙ whole in
    (zero_utf8 (take n text) (all_left (take n text) (drop n text) both) here, zero_utf8 (drop n text) (all_right (take n text) (drop n text) both) after)

first_step : (s u b : ℕ) → s < 38 → u < 9 → b < 256 → has (get_or within_first u 0) s ≡ true → (utf8_next_of u b ≡ 1 → ⊥) → (if eqb (utf8_next_of u b) 0 then ends (next_of s b) else has (get_or within_first (utf8_next_of u b) 0) (next_of s b)) ≡ true
unfolding first_fine
first_step s u b ls lu lb h alive =
    let row = all_at 9 (λ v. if has (get_or within_first v 0) s then all_below 256 (λ c. first_fine s v c) else true) (all_at 38 (λ t. all_below 9 (λ v. if has (get_or within_first v 0) t then all_below 256 (λ c. first_fine t v c) else true)) firsts s ls) u lu in
    let cell = all_at 256 (λ c. first_fine s u c) (if_true _ _ row h) b lb in
    elim (or_cases (eqb (utf8_next_of u b) 1) _ cell) [ inl dead ↦ absurd (alive (eqb-true _ _ dead)) | inr good ↦ good ]

-- some kind ends among the first bytes
FirstEnd : ℕ → List ℕ → Type 0
FirstEnd s w = (m : ℕ) × (0 < m) × (m ≤ length w) × (ends (run s (take m w)) ≡ true)

first_end : (w : List ℕ) (s u : ℕ) → s < 38 → u < 9 → AllBytes w → has (get_or within_first u 0) s ≡ true → utf8_run u w ≡ 0 → 0 < length w → FirstEnd s w
unfolding FirstEnd
first_end [] s u ls lu all h whole pos = absurd (omega arith)
first_end (b ∷ w) s u ls lu all h whole pos =
    go (eqb (utf8_next_of u b) 0) refl (first_step s u b ls lu all.0 h (alive_next u b w all.1 whole)) (λ in_first pos2. first_end w (next_of s b) (utf8_next_of u b) (next_below s b ls all.0) (utf8_next_below u b lu all.0) all.1 in_first whole pos2)
  where
    grown : (x : List ℕ) → utf8_run (utf8_next_of u b) x ≡ 0 → eqb (utf8_next_of u b) 0 ≡ false → 0 < length x
    grown [] z f = let q : eqb (utf8_next_of u b) 0 ≡ true = eq-eqb _ _ z in absurd (differ (sym q ∙ f))
    grown (y ∷ x) z f = omega arith

    go : (c : Bool) → eqb (utf8_next_of u b) 0 ≡ c → (if c then ends (next_of s b) else has (get_or within_first (utf8_next_of u b) 0) (next_of s b)) ≡ true → ((has (get_or within_first (utf8_next_of u b) 0) (next_of s b) ≡ true) → 0 < length w → (m : ℕ) × (0 < m) × (m ≤ length w) × (ends (run (next_of s b) (take m w)) ≡ true)) → (m : ℕ) × (0 < m) × (m ≤ length (b ∷ w)) × (ends (run s (take m (b ∷ w))) ≡ true)
    go true e f rec = (1, lit< tt, omega arith, f)
    go false e f rec = let r = rec f (grown w whole e) in (suc r.0, omega arith, omega (arith, r.2), r.3)

-- some scan stands at the front of a UTF-8 text
pub some_scan : (w : List ℕ) → AllBytes w → IsUtf8 w → 0 < length w → NoScan w → ⊥
unfolding FirstEnd ends
some_scan w all u pos nope =
    let r = first_end w 0 0 (lit< tt) (lit< tt) all start_first (utf8_zero w u) pos in
    let j = ends_kind (end_of (run 0 (take r.0 w))) r.3 in
    nope r.0 j.0 r.1 r.2 (ends_scan j.0 (take r.0 w) (all_take r.0 w all) j.1)
