-- The pattern of UTF-8 matches exactly what std calls UTF-8, and its table follows it.
use Rattle.std.proofs.Common.{◌≡◌, ℕ, suc, ◌+◌, ◌-◌, ◌*◌, ◌/◌, ◌%◌, ◌<◌, ◌≤◌, Bool, true, false, cond, List, [], ◌∷◌, ◌++◌, length, get_or, take, refl, sym, ◌∙◌, ap, subst, arith, eqb, eqb-true, ltb, leb, le-leb, ltb-true, ltb-false, lit<, inl, inr, ◌⊎◌, if◌then◌else◌}
use Rattle.std.specs.Prelude.{◌&&◌, ◌||◌}
use Rattle.std.specs.Str.{IsUtf8}
use Rattle.std.proofs.lemmas.Str.{IsUtf8-encode, IsUtf8-append, IsUtf8-nil, encode_ascii}
use lib.Utf8.{encode, encodes, scalar, scalars, scalar_cases, low_scalar}
use Rattle.widl_lex.specs.Pattern.{Pattern, Never, Range, Cat, Alt, Star, Matches, nothing, range, cat, left, right, stop, more}
use Rattle.widl_lex.specs.Utf8.{tail, two_bytes, three_bytes, four_bytes, utf8_text, BeginsUtf8, IsUtf8Fault}
use Rattle.widl_lex.specs.Walk.{utf8_next_of}
use Rattle.widl_lex.specs.declared.tables.TheConstants.{UTF8_CLASSES}
use Rattle.widl_lex.proofs.Computed.{and_cases, or_cases, if_true, all_below, all_at, AllBytes, all_both, all_right, all_take, take_more}
use Rattle.widl_lex.proofs.Derivative.{after, empties, empties_matches, matches_empties, after_from, after_to, same, same_true, both, cat_parts, alt_parts}
use Rattle.widl_lex.proofs.Utf8Table.{utf8_labels, finishes}

-- what a state of UTF-8 still wants
abbrev pub utf8_label : ℕ → Pattern
utf8_label u = get_or utf8_labels u Never

follows : ℕ → ℕ → Bool
follows u b = ltb (utf8_next_of u b) 9 && same (after b (utf8_label u)) (utf8_label (utf8_next_of u b))

table_follows : all_below 9 (λ u. all_below 256 (λ b. follows u b)) ≡ true
unfolding all_below follows same
table_follows = refl

table_ends : all_below 9 (λ u. if empties (utf8_label u) then eqb u 0 else true) ≡ true
unfolding all_below
table_ends = refl

table_dead : all_below 256 (λ b. eqb (utf8_next_of 1 b) 1) ≡ true
unfolding all_below
table_dead = refl

table_classes : all_below 256 (λ b. ltb (get_or UTF8_CLASSES b 0) 12) ≡ true
unfolding all_below
table_classes = refl

pub utf8_class_below : (b : ℕ) → b < 256 → get_or UTF8_CLASSES b 0 < 12
utf8_class_below b lt = ltb-true _ _ (all_at 256 (λ c. ltb (get_or UTF8_CLASSES c 0) 12) table_classes b lt)

follows_at : (u b : ℕ) → u < 9 → b < 256 → (ltb (utf8_next_of u b) 9 ≡ true) × (same (after b (utf8_label u)) (utf8_label (utf8_next_of u b)) ≡ true)
unfolding follows
follows_at u b lu lb = and_cases (ltb (utf8_next_of u b) 9) _ (all_at 256 (λ c. follows u c) (all_at 9 (λ v. all_below 256 (λ c. follows v c)) table_follows u lu) b lb)

pub utf8_next_below : (u b : ℕ) → u < 9 → b < 256 → utf8_next_of u b < 9
utf8_next_below u b lu lb = ltb-true _ _ (follows_at u b lu lb).0

utf8_label_after : (u b : ℕ) → u < 9 → b < 256 → after b (utf8_label u) ≡ utf8_label (utf8_next_of u b)
utf8_label_after u b lu lb = same_true _ _ (follows_at u b lu lb).1

-- the state of UTF-8 after some bytes
abbrev pub utf8_run : ℕ → List ℕ → ℕ
utf8_run u [] = u
utf8_run u (b ∷ w) = utf8_run (utf8_next_of u b) w

pub utf8_run-append : (u : ℕ) (x y : List ℕ) → utf8_run u (x ++ y) ≡ utf8_run (utf8_run u x) y
utf8_run-append u [] y = refl
utf8_run-append u (b ∷ x) y = utf8_run-append (utf8_next_of u b) x y

pub utf8_run_below : (w : List ℕ) (u : ℕ) → u < 9 → AllBytes w → utf8_run u w < 9
utf8_run_below [] u lu all = lu
utf8_run_below (b ∷ w) u lu all = utf8_run_below w (utf8_next_of u b) (utf8_next_below u b lu all.0) all.1

dead_stays : (w : List ℕ) → AllBytes w → utf8_run 1 w ≡ 1
dead_stays [] all = refl
dead_stays (b ∷ w) all = ap (λ x. utf8_run x w) (eqb-true _ _ (all_at 256 (λ c. eqb (utf8_next_of 1 c) 1) table_dead b all.0)) ∙ dead_stays w all.1

-- no bytes lead out of the dead state
pub utf8_alive : (u : ℕ) (w : List ℕ) → AllBytes w → utf8_run u w ≡ 0 → u ≡ 1 → ⊥
utf8_alive u w all e is = let z : ◌≡◌ {A = ℕ} 0 1 = sym e ∙ ap (λ x. utf8_run x w) is ∙ dead_stays w all in cc

label_ends : (w : List ℕ) (u : ℕ) → u < 9 → AllBytes w → Matches (utf8_label u) w → empties (utf8_label (utf8_run u w)) ≡ true
label_ends [] u lu all m = matches_empties m refl
label_ends (b ∷ w) u lu all m = label_ends w (utf8_next_of u b) (utf8_next_below u b lu all.0) all.1 (subst (λ x. Matches x w) (utf8_label_after u b lu all.0) (after_to m b w refl))

ends_label : (w : List ℕ) (u : ℕ) → u < 9 → AllBytes w → empties (utf8_label (utf8_run u w)) ≡ true → Matches (utf8_label u) w
ends_label [] u lu all e = empties_matches (utf8_label u) e
ends_label (b ∷ w) u lu all e = after_from b (utf8_label u) w (subst (λ x. Matches x w) (sym (utf8_label_after u b lu all.0)) (ends_label w (utf8_next_of u b) (utf8_next_below u b lu all.0) all.1 e))

only_zero : (u : ℕ) → u < 9 → empties (utf8_label u) ≡ true → u ≡ 0
only_zero u lu e = eqb-true u 0 (if_true (empties (utf8_label u)) (eqb u 0) (all_at 9 (λ v. if empties (utf8_label v) then eqb v 0 else true) table_ends u lu) e)

-- the pattern matches exactly the bytes that lead back to the state 0
text_zero : (w : List ℕ) → AllBytes w → Matches utf8_text w → utf8_run 0 w ≡ 0
text_zero w all m = only_zero (utf8_run 0 w) (utf8_run_below w 0 (lit< tt) all) (label_ends w 0 (lit< tt) all m)

zero_text : (w : List ℕ) → AllBytes w → utf8_run 0 w ≡ 0 → Matches utf8_text w
zero_text w all e = ends_label w 0 (lit< tt) all (ap (λ x. empties (get_or utf8_labels x Never)) e)

-- the bytes of a character by its size
cond_true : {X : Type 0} (b : Bool) (x y : X) → b ≡ true → cond b x y ≡ x
cond_true true x y e = refl
cond_true false x y e = cc

cond_false : {X : Type 0} (b : Bool) (x y : X) → (b ≡ true → ⊥) → cond b x y ≡ y
cond_false true x y e = absurd (e refl)
cond_false false x y e = refl

not_below : (a b : ℕ) → b ≤ a → ltb a b ≡ true → ⊥
not_below a b le e = omega (arith, ltb-true a b e)

below : (a b : ℕ) → a < b → ltb a b ≡ true
below a b lt = go (ltb a b) refl
  where
    go : (c : Bool) → ltb a b ≡ c → ltb a b ≡ true
    go true e = e
    go false e = absurd (omega (arith, ltb-false a b e))

encode_two : (c : ℕ) → 128 ≤ c → c < 2048 → encode c ≡ (192 + c / 64) ∷ (128 + c % 64) ∷ []
unfolding encode
encode_two c le lt = cond_false (ltb c 128) _ _ (not_below c 128 le) ∙ cond_true (ltb c 2048) _ _ (below c 2048 lt)

encode_three : (c : ℕ) → 2048 ≤ c → c < 65536 → encode c ≡ (224 + c / 4096) ∷ (128 + c / 64 % 64) ∷ (128 + c % 64) ∷ []
unfolding encode
encode_three c le lt = cond_false (ltb c 128) _ _ (not_below c 128 (omega arith)) ∙ cond_false (ltb c 2048) _ _ (not_below c 2048 le) ∙ cond_true (ltb c 65536) _ _ (below c 65536 lt)

encode_four : (c : ℕ) → 65536 ≤ c → encode c ≡ (240 + c / 262144) ∷ (128 + c / 4096 % 64) ∷ (128 + c / 64 % 64) ∷ (128 + c % 64) ∷ []
unfolding encode
encode_four c le = cond_false (ltb c 128) _ _ (not_below c 128 (omega arith)) ∙ cond_false (ltb c 2048) _ _ (not_below c 2048 (omega arith)) ∙ cond_false (ltb c 65536) _ _ (not_below c 65536 le)

-- one character
abbrev pub character : Pattern
character = Alt (Range 0 127) (Alt two_bytes (Alt three_bytes four_bytes))

in_tail : (n : ℕ) → Matches tail ((128 + n % 64) ∷ [])
in_tail n = range (omega arith) (omega arith)

two : {p q : Pattern} {a b : ℕ} → Matches p (a ∷ []) → Matches q (b ∷ []) → Matches (Cat p q) (a ∷ b ∷ [])
two {a} {b} m n = cat (a ∷ []) (b ∷ []) m n refl

three : {p q r : Pattern} {a b c : ℕ} → Matches p (a ∷ []) → Matches q (b ∷ []) → Matches r (c ∷ []) → Matches (Cat p (Cat q r)) (a ∷ b ∷ c ∷ [])
three {a} {b} {c} m n o = cat (a ∷ []) (b ∷ c ∷ []) m (two n o) refl

four : {p q r s : Pattern} {a b c d : ℕ} → Matches p (a ∷ []) → Matches q (b ∷ []) → Matches r (c ∷ []) → Matches s (d ∷ []) → Matches (Cat p (Cat q (Cat r s))) (a ∷ b ∷ c ∷ d ∷ [])
four {a} {b} {c} {d} m n o t = cat (a ∷ []) (b ∷ c ∷ d ∷ []) m (three n o t) refl

order : (a b : ℕ) → (a < b) ⊎ (b ≤ a)
order a b = go (ltb a b) refl
  where
    go : (c : Bool) → ltb a b ≡ c → (a < b) ⊎ (b ≤ a)
    go true e = inl (ltb-true a b e)
    go false e = inr (ltb-false a b e)

encode_three_matches : (c : ℕ) → 2048 ≤ c → c < 65536 → (c < 55296) ⊎ (57344 ≤ c) → Matches three_bytes ((224 + c / 4096) ∷ (128 + c / 64 % 64) ∷ (128 + c % 64) ∷ [])
encode_three_matches c le lt (inl low) = elim (order c 4096) [
  | inl a ↦ left (three (range (omega arith) (omega arith)) (range (omega arith) (omega arith)) (in_tail c))
  | inr a ↦ elim (order c 53248) [
    | inl b ↦ right (left (three (range (omega arith) (omega arith)) (in_tail (c / 64)) (in_tail c)))
    | inr b ↦ right (right (left (three (range (omega arith) (omega arith)) (range (omega arith) (omega arith)) (in_tail c))))
  ]
]
encode_three_matches c le lt (inr high) = right (right (right (three (range (omega arith) (omega arith)) (in_tail (c / 64)) (in_tail c))))

encode_four_matches : (c : ℕ) → 65536 ≤ c → c < 1114112 → Matches four_bytes ((240 + c / 262144) ∷ (128 + c / 4096 % 64) ∷ (128 + c / 64 % 64) ∷ (128 + c % 64) ∷ [])
encode_four_matches c le lt = elim (order c 262144) [
  | inl a ↦ left (four (range (omega arith) (omega arith)) (range (omega arith) (omega arith)) (in_tail (c / 64)) (in_tail c))
  | inr a ↦ elim (order c 1048576) [
    | inl b ↦ right (left (four (range (omega arith) (omega arith)) (in_tail (c / 4096)) (in_tail (c / 64)) (in_tail c)))
    | inr b ↦ right (right (four (range (omega arith) (omega arith)) (range (omega arith) (omega arith)) (in_tail (c / 64)) (in_tail c)))
  ]
]

either_range : (c : ℕ) → (c < 55296) ⊎ ((57344 ≤ c) × (c < 1114112)) → (c < 1114112) × ((c < 55296) ⊎ (57344 ≤ c))
either_range c (inl a) = (omega arith, inl a)
either_range c (inr a) = (a.1, inr a.0)

encode_matches : (c : ℕ) → scalar c ≡ true → Matches character (encode c)
encode_matches c s =
    let r = either_range c (scalar_cases c s) in
    elim (order c 128) [
      | inl a ↦ subst (Matches character) (sym (encode_ascii c a)) (left (range (omega arith) (omega arith)))
      | inr a ↦ elim (order c 2048) [
        | inl b ↦ subst (Matches character) (sym (encode_two c a b)) (right (left (two (range (omega arith) (omega arith)) (in_tail c))))
        | inr b ↦ elim (order c 65536) [
          | inl d ↦ subst (Matches character) (sym (encode_three c b d)) (right (right (left (encode_three_matches c b d r.1))))
          | inr d ↦ subst (Matches character) (sym (encode_four c d)) (right (right (right (encode_four_matches c d r.0))))
        ]
      ]
    ]

encodes_match : (cs : List ℕ) → scalars cs ≡ true → Matches utf8_text (encodes cs)
encodes_match [] s = stop
encodes_match (c ∷ cs) s = let h = and_cases (scalar c) (scalars cs) s in more (encode c) (encodes cs) (encode_matches c h.0) (encodes_match cs h.1) refl

-- std's UTF-8 matches the pattern
pub utf8_matches : (w : List ℕ) → IsUtf8 w → Matches utf8_text w
utf8_matches w u = subst (Matches utf8_text) u.1.1 (encodes_match u.0 u.1.0)

-- what matches the pattern is std's UTF-8
is_scalar : (c : ℕ) → (c < 55296) ⊎ ((57344 ≤ c) × (c < 1114112)) → scalar c ≡ true
is_scalar c (inl lt) = low_scalar c lt
is_scalar c (inr h) = cond_false (ltb c 55296) true (leb 57344 c && ltb c 1114112) (not_below c 55296 (omega arith)) ∙ both (leb 57344 c) (ltb c 1114112) (le-leb 57344 c h.0) (below c 1114112 h.1)

from_one : (b : ℕ) → b ≤ 127 → IsUtf8 (b ∷ [])
from_one b le = subst IsUtf8 (encode_ascii b (omega arith)) (IsUtf8-encode b (low_scalar b (omega arith)))

-- the bytes a b of the character c
from_two : (a b c : ℕ) → c + 12416 ≡ a * 64 + b → 194 ≤ a → a ≤ 223 → 128 ≤ b → b ≤ 191 → IsUtf8 (a ∷ b ∷ [])
from_two a b c e la ha lb hb =
    let first : 192 + c / 64 ≡ a = omega arith in
    let second : 128 + c % 64 ≡ b = omega arith in
    subst IsUtf8 (encode_two c (omega arith) (omega arith) ∙ ap (λ x. x ∷ (128 + c % 64) ∷ []) first ∙ ap (λ x. a ∷ x ∷ []) second) (IsUtf8-encode c (low_scalar c (omega arith)))

from_three : (a b d c : ℕ) → c + 925824 ≡ a * 4096 + b * 64 + d → 2048 ≤ c → c < 65536 → (c < 55296) ⊎ ((57344 ≤ c) × (c < 1114112)) → 128 ≤ b → b ≤ 191 → 128 ≤ d → d ≤ 191 → IsUtf8 (a ∷ b ∷ d ∷ [])
from_three a b d c e lc hc sc lb hb ld hd =
    let first : 224 + c / 4096 ≡ a = omega arith in
    let second : 128 + c / 64 % 64 ≡ b = omega arith in
    let third : 128 + c % 64 ≡ d = omega arith in
    subst IsUtf8 (encode_three c lc hc ∙ ap (λ x. x ∷ (128 + c / 64 % 64) ∷ (128 + c % 64) ∷ []) first ∙ ap (λ x. a ∷ x ∷ (128 + c % 64) ∷ []) second ∙ ap (λ x. a ∷ b ∷ x ∷ []) third) (IsUtf8-encode c (is_scalar c sc))

from_four : (a b d f c : ℕ) → c + 63447168 ≡ a * 262144 + b * 4096 + d * 64 + f → 65536 ≤ c → c < 1114112 → 128 ≤ b → b ≤ 191 → 128 ≤ d → d ≤ 191 → 128 ≤ f → f ≤ 191 → IsUtf8 (a ∷ b ∷ d ∷ f ∷ [])
from_four a b d f c e lc hc lb hb ld hd lf hf =
    let first : 240 + c / 262144 ≡ a = omega arith in
    let second : 128 + c / 4096 % 64 ≡ b = omega arith in
    let third : 128 + c / 64 % 64 ≡ d = omega arith in
    let fourth : 128 + c % 64 ≡ f = omega arith in
    subst IsUtf8 (encode_four c lc ∙ ap (λ x. x ∷ (128 + c / 4096 % 64) ∷ (128 + c / 64 % 64) ∷ (128 + c % 64) ∷ []) first ∙ ap (λ x. a ∷ x ∷ (128 + c / 64 % 64) ∷ (128 + c % 64) ∷ []) second ∙ ap (λ x. a ∷ b ∷ x ∷ (128 + c % 64) ∷ []) third ∙ ap (λ x. a ∷ b ∷ d ∷ x ∷ []) fourth) (IsUtf8-encode c (is_scalar c (inr (omega arith, hc))))

pub range_byte : {low high : ℕ} {w : List ℕ} → Matches (Range low high) w → (b : ℕ) × (w ≡ b ∷ []) × (low ≤ b) × (b ≤ high)
range_byte (range {b} le ge) = (b, refl, le, ge)

two_parts : {low high l h : ℕ} {w : List ℕ} → Matches (Cat (Range low high) (Range l h)) w → (a : ℕ) × (b : ℕ) × (w ≡ a ∷ b ∷ []) × (low ≤ a) × (a ≤ high) × (l ≤ b) × (b ≤ h)
two_parts m =
    let p = cat_parts m in
    let x = range_byte p.2 in
    let y = range_byte p.3 in
    (x.0, y.0, p.4 ∙ ap (λ u. u ++ p.1) x.1 ∙ ap (λ u. x.0 ∷ u) y.1, x.2, x.3, y.2, y.3)

three_parts : {low high l h : ℕ} {w : List ℕ} → Matches (Cat (Range low high) (Cat (Range l h) tail)) w → (a : ℕ) × (b : ℕ) × (d : ℕ) × (w ≡ a ∷ b ∷ d ∷ []) × (low ≤ a) × (a ≤ high) × (l ≤ b) × (b ≤ h) × (128 ≤ d) × (d ≤ 191)
three_parts m =
    let p = cat_parts m in
    let x = range_byte p.2 in
    let y = two_parts p.3 in
    (x.0, y.0, y.1, p.4 ∙ ap (λ u. u ++ p.1) x.1 ∙ ap (λ u. x.0 ∷ u) y.2, x.2, x.3, y.3, y.4, y.5, y.6)

four_parts : {low high l h : ℕ} {w : List ℕ} → Matches (Cat (Range low high) (Cat (Range l h) (Cat tail tail))) w → (a : ℕ) × (b : ℕ) × (d : ℕ) × (f : ℕ) × (w ≡ a ∷ b ∷ d ∷ f ∷ []) × (low ≤ a) × (a ≤ high) × (l ≤ b) × (b ≤ h) × (128 ≤ d) × (d ≤ 191) × (128 ≤ f) × (f ≤ 191)
four_parts m =
    let p = cat_parts m in
    let x = range_byte p.2 in
    let y = three_parts p.3 in
    (x.0, y.0, y.1, y.2, p.4 ∙ ap (λ u. u ++ p.1) x.1 ∙ ap (λ u. x.0 ∷ u) y.3, x.2, x.3, y.4, y.5, y.6, y.7, y.8, y.9)

-- the character of three and of four bytes
of_three : (a b d : ℕ) → ℕ
of_three a b d = (a - 224) * 4096 + (b - 128) * 64 + (d - 128)

of_four : (a b d f : ℕ) → ℕ
of_four a b d f = (a - 240) * 262144 + (b - 128) * 4096 + (d - 128) * 64 + (f - 128)

three_utf8 : (w : List ℕ) → Matches three_bytes w → IsUtf8 w
unfolding of_three
three_utf8 w m = elim (alt_parts m) [
  | inl p ↦ let r = three_parts p in subst IsUtf8 (sym r.3) (from_three r.0 r.1 r.2 (of_three r.0 r.1 r.2) (omega arith) (omega arith) (omega arith) (inl (omega arith)) (omega arith) r.7 r.8 r.9)
  | inr m2 ↦ elim (alt_parts m2) [
    | inl p ↦ let r = three_parts p in subst IsUtf8 (sym r.3) (from_three r.0 r.1 r.2 (of_three r.0 r.1 r.2) (omega arith) (omega arith) (omega arith) (inl (omega arith)) r.6 r.7 r.8 r.9)
    | inr m3 ↦ elim (alt_parts m3) [
      | inl p ↦ let r = three_parts p in subst IsUtf8 (sym r.3) (from_three r.0 r.1 r.2 (of_three r.0 r.1 r.2) (omega arith) (omega arith) (omega arith) (inl (omega arith)) r.6 (omega arith) r.8 r.9)
      | inr p ↦ let r = three_parts p in subst IsUtf8 (sym r.3) (from_three r.0 r.1 r.2 (of_three r.0 r.1 r.2) (omega arith) (omega arith) (omega arith) (inr (omega arith, omega arith)) r.6 r.7 r.8 r.9)
    ]
  ]
]

four_utf8 : (w : List ℕ) → Matches four_bytes w → IsUtf8 w
unfolding of_four
four_utf8 w m = elim (alt_parts m) [
  | inl p ↦ let r = four_parts p in subst IsUtf8 (sym r.4) (from_four r.0 r.1 r.2 r.3 (of_four r.0 r.1 r.2 r.3) (omega arith) (omega arith) (omega arith) (omega arith) r.8 r.9 r.10 r.11 r.12)
  | inr m2 ↦ elim (alt_parts m2) [
    | inl p ↦ let r = four_parts p in subst IsUtf8 (sym r.4) (from_four r.0 r.1 r.2 r.3 (of_four r.0 r.1 r.2 r.3) (omega arith) (omega arith) (omega arith) r.7 r.8 r.9 r.10 r.11 r.12)
    | inr p ↦ let r = four_parts p in subst IsUtf8 (sym r.4) (from_four r.0 r.1 r.2 r.3 (of_four r.0 r.1 r.2 r.3) (omega arith) (omega arith) (omega arith) r.7 (omega arith) r.9 r.10 r.11 r.12)
  ]
]

character_utf8 : (w : List ℕ) → Matches character w → IsUtf8 w
character_utf8 w m = elim (alt_parts m) [
  | inl p ↦ let r = range_byte p in subst IsUtf8 (sym r.1) (from_one r.0 r.3)
  | inr m2 ↦ elim (alt_parts m2) [
    | inl p ↦ let r = two_parts p in subst IsUtf8 (sym r.2) (from_two r.0 r.1 (r.0 * 64 + r.1 - 12416) (omega arith) r.3 r.4 r.5 r.6)
    | inr m3 ↦ elim (alt_parts m3) [ inl p ↦ three_utf8 w p | inr p ↦ four_utf8 w p ]
  ]
]

star_utf8 : {r : Pattern} {w : List ℕ} → Matches r w → r ≡ Star character → IsUtf8 w
star_utf8 nothing e = cc
star_utf8 (range a b) e = cc
star_utf8 (cat u v m n f) e = cc
star_utf8 (left m) e = cc
star_utf8 (right m) e = cc
star_utf8 stop e = IsUtf8-nil
star_utf8 (more {p} u v m n f) e =
    let same_pattern : p ≡ character = cc in
    subst IsUtf8 (sym f) (IsUtf8-append u v (character_utf8 u (subst (λ q. Matches q u) same_pattern m)) (star_utf8 n e))

pub matches_utf8 : (w : List ℕ) → Matches utf8_text w → IsUtf8 w
matches_utf8 w m = star_utf8 m refl

-- a UTF-8 text is of bytes
encode_bytes : (c : ℕ) → scalar c ≡ true → AllBytes (encode c)
encode_bytes c s =
    let r = either_range c (scalar_cases c s) in
    elim (order c 128) [
      | inl a ↦ subst AllBytes (sym (encode_ascii c a)) (omega arith, tt)
      | inr a ↦ elim (order c 2048) [
        | inl b ↦ subst AllBytes (sym (encode_two c a b)) (omega arith, (omega arith, tt))
        | inr b ↦ elim (order c 65536) [
          | inl d ↦ subst AllBytes (sym (encode_three c b d)) (omega arith, (omega arith, (omega arith, tt)))
          | inr d ↦ subst AllBytes (sym (encode_four c d)) (omega (arith, r.0), (omega arith, (omega arith, (omega arith, tt))))
        ]
      ]
    ]

encodes_bytes : (cs : List ℕ) → scalars cs ≡ true → AllBytes (encodes cs)
encodes_bytes [] s = tt
encodes_bytes (c ∷ cs) s = let h = and_cases (scalar c) (scalars cs) s in all_both (encode c) (encodes cs) (encode_bytes c h.0) (encodes_bytes cs h.1)

pub utf8_bytes : (w : List ℕ) → IsUtf8 w → AllBytes w
utf8_bytes w u = subst AllBytes u.1.1 (encodes_bytes u.0 u.1.0)

-- the bytes are UTF-8 exactly where they lead back to the state 0
pub utf8_zero : (w : List ℕ) → IsUtf8 w → utf8_run 0 w ≡ 0
utf8_zero w u = text_zero w (utf8_bytes w u) (utf8_matches w u)

pub zero_utf8 : (w : List ℕ) → AllBytes w → utf8_run 0 w ≡ 0 → IsUtf8 w
zero_utf8 w all e = matches_utf8 w (zero_text w all e)

-- from each state but the dead one some bytes end the character
finish : ℕ → List ℕ
finish u = get_or finishes u []

are_bytes : List ℕ → Bool
are_bytes [] = true
are_bytes (b ∷ w) = ltb b 256 && are_bytes w

are_bytes_all : (w : List ℕ) → are_bytes w ≡ true → AllBytes w
unfolding are_bytes
are_bytes_all [] e = tt
are_bytes_all (b ∷ w) e = let h = and_cases (ltb b 256) (are_bytes w) e in (ltb-true _ _ h.0, are_bytes_all w h.1)

finish_fine : ℕ → Bool
finish_fine u = eqb u 1 || (eqb (utf8_run u (finish u)) 0 && are_bytes (finish u))

table_finishes : all_below 9 finish_fine ≡ true
unfolding all_below finish_fine finish are_bytes
table_finishes = refl

finish_at : (u : ℕ) → u < 9 → (u ≡ 1 → ⊥) → (utf8_run u (finish u) ≡ 0) × AllBytes (finish u)
unfolding finish_fine
finish_at u lu alive = elim (or_cases (eqb u 1) _ (all_at 9 finish_fine table_finishes u lu)) [
  | inl dead ↦ absurd (alive (eqb-true u 1 dead))
  | inr fine ↦ let h = and_cases _ _ fine in (eqb-true _ _ h.0, are_bytes_all _ h.1)
]

begins : (w : List ℕ) → AllBytes w → (utf8_run 0 w ≡ 1 → ⊥) → BeginsUtf8 w
begins w all alive =
    let u = utf8_run 0 w in
    let f = finish_at (utf8_run 0 w) (utf8_run_below w 0 (lit< tt) all) alive in
    (finish (utf8_run 0 w), zero_utf8 (w ++ finish (utf8_run 0 w)) (all_both w (finish (utf8_run 0 w)) all f.1) (utf8_run-append 0 w (finish (utf8_run 0 w)) ∙ f.0))

-- bytes that lead to the dead state begin no text
dead_begins_none : (w : List ℕ) → utf8_run 0 w ≡ 1 → BeginsUtf8 w → ⊥
dead_begins_none w dead b = utf8_alive (utf8_run 0 w) b.0 (all_right w b.0 (utf8_bytes (w ++ b.0) b.1)) (sym (utf8_run-append 0 w b.0) ∙ utf8_zero (w ++ b.0) b.1) dead

take_length : (w : List ℕ) → take (length w) w ≡ w
take_length [] = refl
take_length (x ∷ w) = ap (λ u. x ∷ u) (take_length w)

module _ (w : List ℕ) (all : AllBytes w) where
  pub utf8_run_more : (p s t : ℕ) → p < length w → s ≡ utf8_run 0 (take p w) → t ≡ utf8_next_of s (get_or w p 0) → t ≡ utf8_run 0 (take (p + 1) w)
  utf8_run_more p s t lt e f = let one : p + 1 ≡ suc p = omega arith in f ∙ ap (λ x. utf8_next_of x (get_or w p 0)) e ∙ sym (utf8_run-append 0 (take p w) (get_or w p 0 ∷ [])) ∙ sym (ap (utf8_run 0) (ap (λ i. take i w) one ∙ take_more w p lt))

  pub fault_within : (p s t : ℕ) → p < length w → s ≡ utf8_run 0 (take p w) → (s ≡ 1 → ⊥) → t ≡ utf8_run 0 (take (p + 1) w) → t ≡ 1 → IsUtf8Fault w p
  fault_within p s t lt e alive f dead = record {
    within = omega arith;
    before = begins (take p w) (all_take p w all) (λ z. alive (e ∙ z));
    fault = λ less b. dead_begins_none (take (p + 1) w) (sym f ∙ dead) b;
    at_end = λ is u. absurd (omega arith);
  }

  pub fault_at_end : (p s : ℕ) → p ≡ length w → s ≡ utf8_run 0 (take p w) → (s ≡ 1 → ⊥) → (s ≡ 0 → ⊥) → IsUtf8Fault w (length w)
  fault_at_end p s is e alive unfinished =
      let whole : utf8_run 0 (take p w) ≡ utf8_run 0 w = ap (utf8_run 0) (ap (λ i. take i w) is ∙ take_length w) in
      record {
        within = omega arith;
        before = subst BeginsUtf8 (sym (take_length w)) (begins w all (λ z. alive (e ∙ whole ∙ z)));
        fault = λ less b. absurd (omega arith);
        at_end = λ same u. unfinished (e ∙ whole ∙ utf8_zero w u);
      }

  pub no_fault : (p s : ℕ) → p ≡ length w → s ≡ utf8_run 0 (take p w) → s ≡ 0 → IsUtf8 w
  no_fault p s is e zero_is = zero_utf8 w all (sym (ap (utf8_run 0) (ap (λ i. take i w) is ∙ take_length w)) ∙ sym e ∙ zero_is)
