-- The first character of bytes.
use Rattle.std.proofs.Common.{◌≡◌, ℕ, ◌+◌, ◌*◌, ◌-◌, ◌<◌, ◌≤◌, Bool, true, false, List, [], ◌∷◌, Option, Some, None, length, refl, sym, ◌∙◌, ap, subst, arith, nat_lt, ltb-true, ltb-false, Bor}
use Rattle.std.specs.Prelude.{cond, MatchOption}
use Rattle.std.specs.Str.{chars, chars_after, continuation_len, lead_bits}
use Rattle.widl_lines.specs.Characters.{IsCut}

below : (n m : ℕ) → n < m → (c : Bool) → nat_lt n m ≡ c → nat_lt n m ≡ true
below n m less true e = e
below n m less false e = absurd (omega (arith, less, ltb-false n m e))

not_below : (n m : ℕ) → m ≤ n → (c : Bool) → nat_lt n m ≡ c → nat_lt n m ≡ false
not_below n m least true e = absurd (omega (arith, least, ltb-true n m e))
not_below n m least false e = e

pub after_zero : (code : ℕ) (text : List ℕ) → chars_after 0 code text ≡ code ∷ chars text
unfolding chars
after_zero code [] = refl
after_zero code (b ∷ more) = refl

pub shorter : (text : List ℕ) (b : ℕ) (more : List ℕ) → text ≡ b ∷ more → length more < length text
shorter text b more is = let longer : length text ≡ length more + 1 = ap length is ∙ omega arith in omega (arith, longer)

-- one byte is still to come
pub cut_after_one : (code next b : ℕ) (text more : List ℕ) → text ≡ b ∷ more → next ≡ code * 64 + (b - 128) → IsCut (chars_after 1 code text) text next more
cut_after_one code next b text more is grown =
    (ap (chars_after 1 code) is ∙ ap (λ c. chars_after 0 c more) (sym grown) ∙ after_zero next more, shorter text b more is)

pub no_characters : (text : List ℕ) → length text ≡ 0 → chars text ≡ []
unfolding chars
no_characters [] none = refl
no_characters (b ∷ more) none = absurd (omega (arith, none))

pub nothing_split : (text : List ℕ) (r : Option (ℕ × Bor (List ℕ))) → r ≡ None → length text ≡ 0 → MatchOption r (chars text ≡ []) (λ cut. IsCut (chars text) text cut.0 cut.1.now)
nothing_split text r none empty = subst (λ o. MatchOption o (chars text ≡ []) (λ cut. IsCut (chars text) text cut.0 cut.1.now)) (sym none) (no_characters text empty)

led_by : (text : List ℕ) (b : ℕ) (more : List ℕ) → text ≡ b ∷ more → chars text ≡ chars_after (continuation_len b) (lead_bits b) more
unfolding chars
led_by text b more is = ap chars is

-- the bytes of the first character as its first byte tells
pub led : (text : List ℕ) (b : ℕ) (more : List ℕ) (n lead : ℕ) (r : Option (ℕ × Bor (List ℕ))) → text ≡ b ∷ more → continuation_len b ≡ n → lead_bits b ≡ lead
    → MatchOption r (chars_after n lead more ≡ []) (λ cut. IsCut (chars_after n lead more) more cut.0 cut.1.now)
    → MatchOption r (chars text ≡ []) (λ cut. IsCut (chars text) text cut.0 cut.1.now)
led text b more n lead None is count bits h = led_by text b more is ∙ ap (λ k. chars_after k (lead_bits b) more) count ∙ ap (λ c. chars_after n c more) bits ∙ h
led text b more n lead (Some cut) is count bits h =
    let longer = shorter text b more is in
    (led_by text b more is ∙ ap (λ k. chars_after k (lead_bits b) more) count ∙ ap (λ c. chars_after n c more) bits ∙ h.0, omega (arith, h.1, longer))

pub cut_ascii : (text : List ℕ) (b first : ℕ) (more : List ℕ) → text ≡ b ∷ more → first ≡ b → first < 128 → IsCut (chars text) text first more
cut_ascii text b first more is same less =
    let small : nat_lt b 128 ≡ true = ap (λ n. nat_lt n 128) (sym same) ∙ below first 128 less (nat_lt first 128) refl in (
      led_by text b more is
          ∙ ap (λ c. chars_after (cond c 0 (cond (nat_lt b 224) 1 (cond (nat_lt b 240) 2 3))) (lead_bits b) more) small
          ∙ ap (λ c. chars_after 0 (cond c b (cond (nat_lt b 224) (b - 192) (cond (nat_lt b 240) (b - 224) (b - 240)))) more) small
          ∙ ap (λ c. chars_after 0 c more) (sym same)
          ∙ after_zero first more,
      shorter text b more is,
    )

pub two_bytes : (b first : ℕ) → first ≡ b → 128 ≤ first → first < 224 → (continuation_len b ≡ 1) × (lead_bits b ≡ first - 192)
two_bytes b first same high low =
    let h : nat_lt b 128 ≡ false = ap (λ n. nat_lt n 128) (sym same) ∙ not_below first 128 high (nat_lt first 128) refl in
    let l : nat_lt b 224 ≡ true = ap (λ n. nat_lt n 224) (sym same) ∙ below first 224 low (nat_lt first 224) refl in (
      ap (λ c. cond c 0 (cond (nat_lt b 224) 1 (cond (nat_lt b 240) 2 3))) h ∙ ap (λ c. cond c 1 (cond (nat_lt b 240) 2 3)) l,
      ap (λ c. cond c b (cond (nat_lt b 224) (b - 192) (cond (nat_lt b 240) (b - 224) (b - 240)))) h ∙ ap (λ c. cond c (b - 192) (cond (nat_lt b 240) (b - 224) (b - 240))) l ∙ ap (λ n. n - 192) (sym same),
    )

pub three_bytes : (b first : ℕ) → first ≡ b → 128 ≤ first → 224 ≤ first → first < 240 → (continuation_len b ≡ 2) × (lead_bits b ≡ first - 224)
three_bytes b first same high higher low =
    let h : nat_lt b 128 ≡ false = ap (λ n. nat_lt n 128) (sym same) ∙ not_below first 128 high (nat_lt first 128) refl in
    let k : nat_lt b 224 ≡ false = ap (λ n. nat_lt n 224) (sym same) ∙ not_below first 224 higher (nat_lt first 224) refl in
    let l : nat_lt b 240 ≡ true = ap (λ n. nat_lt n 240) (sym same) ∙ below first 240 low (nat_lt first 240) refl in (
      ap (λ c. cond c 0 (cond (nat_lt b 224) 1 (cond (nat_lt b 240) 2 3))) h ∙ ap (λ c. cond c 1 (cond (nat_lt b 240) 2 3)) k ∙ ap (λ c. cond c 2 3) l,
      ap (λ c. cond c b (cond (nat_lt b 224) (b - 192) (cond (nat_lt b 240) (b - 224) (b - 240)))) h ∙ ap (λ c. cond c (b - 192) (cond (nat_lt b 240) (b - 224) (b - 240))) k
          ∙ ap (λ c. cond c (b - 224) (b - 240)) l ∙ ap (λ n. n - 224) (sym same),
    )

pub four_bytes : (b first : ℕ) → first ≡ b → 128 ≤ first → 224 ≤ first → 240 ≤ first → (continuation_len b ≡ 3) × (lead_bits b ≡ first - 240)
four_bytes b first same high higher highest =
    let h : nat_lt b 128 ≡ false = ap (λ n. nat_lt n 128) (sym same) ∙ not_below first 128 high (nat_lt first 128) refl in
    let k : nat_lt b 224 ≡ false = ap (λ n. nat_lt n 224) (sym same) ∙ not_below first 224 higher (nat_lt first 224) refl in
    let l : nat_lt b 240 ≡ false = ap (λ n. nat_lt n 240) (sym same) ∙ not_below first 240 highest (nat_lt first 240) refl in (
      ap (λ c. cond c 0 (cond (nat_lt b 224) 1 (cond (nat_lt b 240) 2 3))) h ∙ ap (λ c. cond c 1 (cond (nat_lt b 240) 2 3)) k ∙ ap (λ c. cond c 2 3) l,
      ap (λ c. cond c b (cond (nat_lt b 224) (b - 192) (cond (nat_lt b 240) (b - 224) (b - 240)))) h ∙ ap (λ c. cond c (b - 192) (cond (nat_lt b 240) (b - 224) (b - 240))) k
          ∙ ap (λ c. cond c (b - 224) (b - 240)) l ∙ ap (λ n. n - 240) (sym same),
    )
