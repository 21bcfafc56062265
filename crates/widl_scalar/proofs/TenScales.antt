-- Products with powers of ten.
use Rattle.std.proofs.Common.{◌≡◌, ℕ, suc, zero, ◌+◌, ◌-◌, ◌*◌, ◌/◌, ◌^◌, ◌<◌, ◌≤◌, ◌⊎◌, ◌≢◌, inl, inr, min, Bool, true, false, List, [], length, get_or, drop, ◌∷◌, ◌++◌, refl, sym, ap, subst, ◌∙◌, arith}
use Rattle.std.proofs.lemmas.Bool.{cases_lt}
use Rattle.std.proofs.lemmas.Nat.{pow-add}
use Rattle.std.proofs.Math.Nat.{mul-le-mul_left, mul-le-mul_right, mul_assoc, mul_comm, mul-div_cancel, pow-suc, pow-le-pow_right, one-le-pow}
use Rattle.std.proofs.lemmas.List.{at_drop_all, at_drop_more}
use Rattle.std.proofs.lemmas.Str.Parse.{digit_at}
use Rattle.std.specs.Char.{digit_value}
use Rattle.widl_text.proofs.Decimals.{digit_value_is}
use Rattle.std.specs.Str.Parse.{AllDigits, digits_value, digits_value_after}
use Rattle.widl_scalar.specs.DecimalScales.{IsScaled, Means, Shift, Stands}

-- one factor more
pub more : (v left n : ℕ) → 0 < left → v * 10 * 10 ^ (left - 1) ≡ v * 10 ^ left
more v zero n some = absurd (omega (arith, some))
more v (suc left) n some =
    let less : suc left - 1 ≡ left = omega arith in
    ap (λ l. v * 10 * 10 ^ l) less ∙ mul_assoc v 10 (10 ^ left) ∙ ap (λ p. v * p) (mul_comm 10 (10 ^ left) ∙ sym (pow-suc 10 left))

pub above : (limit v left x : ℕ) → 0 < left → limit < v * 10 → v * 10 ^ left ≡ x → limit < x
above limit v left x some high is =
    let one : 1 ≤ 10 ^ (left - 1) = one-le-pow (left - 1) 10 (omega arith) in
    let up : v * 10 * 1 ≤ v * 10 * 10 ^ (left - 1) = mul-le-mul_left (v * 10) one in
    let same = more v left x some in
    omega (arith, up, same, is, high)

-- the number so far, cut, and the digits that are left give the number of all digits
pub record Counted (all rest : List ℕ) (number : ℕ) : Type 0 where
  pub digits : AllDigits 10 rest
  pub so_far : ℕ
  pub cut : number ≡ min so_far (2 ^ 100)
  pub same : digits_value_after 10 so_far rest ≡ digits_value 10 all

-- the stripped number so far and the digits that are left give the number of all digits after n
pub record Reached (n : ℕ) (all rest : List ℕ) (kept zeros : ℕ) : Type 0 where
  pub so_far : ℕ
  pub stands : Stands so_far kept zeros
  pub same : digits_value_after 10 so_far rest ≡ digits_value_after 10 n all

ten_some : (e : ℕ) → 1 ≤ 10 ^ e
ten_some e = one-le-pow e 10 (omega arith)

-- a cut number times a power, cut again
pub cut_times : (number kept p : ℕ) → 1 ≤ p → kept ≡ min number (2 ^ 64 + 1) → min (kept * p) (2 ^ 64 + 1) ≡ min (number * p) (2 ^ 64 + 1)
cut_times number kept p some cut = by (cases_lt (2 ^ 64) number)
  where
    by : (2 ^ 64 < number) ⊎ (number ≤ 2 ^ 64) → min (kept * p) (2 ^ 64 + 1) ≡ min (number * p) (2 ^ 64 + 1)
    by (inl great) =
        let whole : number * 1 ≤ number * p = mul-le-mul_left number some in
        let part : kept * 1 ≤ kept * p = mul-le-mul_left kept some in
        omega (arith, great, whole, part, cut)
    by (inr small) = let same : kept ≡ number = omega (arith, small, cut) in ap (λ k. min (k * p) (2 ^ 64 + 1)) same

pub stands_zero : (n kept zeros : ℕ) → Stands n kept zeros → (digit : ℕ) → digit ≡ 0 → Stands (n * 10 + digit) kept (zeros + 1)
stands_zero n kept zeros s digit none =
    let next : 10 ^ (zeros + 1) ≡ 10 ^ zeros * 10 = (let more : zeros + 1 ≡ suc zeros = omega arith in ap (λ e. 10 ^ e) more ∙ pow-suc 10 zeros) in
    let value : n * 10 + digit ≡ s.number * 10 ^ zeros * 10 = (let v = s.value in omega (arith, v, none)) in
    record { number = s.number; value = value ∙ mul_assoc s.number (10 ^ zeros) 10 ∙ ap (λ p. s.number * p) (sym next); cut = s.cut; last = s.last }

pub stands_digit : (n kept zeros digit now : ℕ) → Stands n kept zeros → 0 < digit → digit < 10 → now ≡ min (min (kept * 10 ^ (zeros + 1)) (2 ^ 64 + 1) + digit) (2 ^ 64 + 1) → Stands (n * 10 + digit) now 0
stands_digit n kept zeros digit now s some most is =
    let next : 10 ^ (zeros + 1) ≡ 10 ^ zeros * 10 = (let more : zeros + 1 ≡ suc zeros = omega arith in ap (λ e. 10 ^ e) more ∙ pow-suc 10 zeros) in
    let ten : n * 10 ≡ s.number * 10 ^ (zeros + 1) = ap (λ v. v * 10) s.value ∙ mul_assoc s.number (10 ^ zeros) 10 ∙ ap (λ p. s.number * p) (sym next) in
    let cut = cut_times s.number kept (10 ^ (zeros + 1)) (ten_some (zeros + 1)) s.cut in
    record {
      number = n * 10 + digit;
      value = omega arith;
      cut = omega (arith, is, cut, ten);
      last = λ none. absurd (omega (arith, none, some, most));
    }

unit_value : (digits : List ℕ) (i : ℕ) → i < length digits → AllDigits 10 digits → digit_value (get_or digits i 0) ≡ get_or digits i 0 - 48
unit_value digits i within are = let range = digit_at digits i are within in digit_value_is (get_or digits i 0) range.0 range.1

-- one digit more is read
pub reached_more : (n : ℕ) (digits : List ℕ) (i kept zeros digit kept_now zeros_now : ℕ) → i < length digits → AllDigits 10 digits → digit ≡ get_or digits i 0 - 48
    → ((m : ℕ) → Stands m kept zeros → Stands (m * 10 + digit) kept_now zeros_now) → Reached n digits (drop i digits) kept zeros → Reached n digits (drop (i + 1) digits) kept_now zeros_now
reached_more n digits i kept zeros digit kept_now zeros_now within are is step r =
    let value : digit_value (get_or digits i 0) ≡ digit = unit_value digits i within are ∙ sym is in
    record {
      so_far = r.so_far * 10 + digit;
      stands = step r.so_far r.stands;
      same = ap (λ d. digits_value_after 10 (r.so_far * 10 + d) (drop (i + 1) digits)) (sym value) ∙ sym (at_drop_more (digits_value_after 10 r.so_far) digits i 0 within) ∙ r.same;
    }

pub reached_first : (n : ℕ) (digits : List ℕ) (kept zeros : ℕ) → Stands n kept zeros → Reached n digits digits kept zeros
reached_first n digits kept zeros s = record { so_far = n; stands = s; same = refl }

pub reached_last : (n : ℕ) (digits : List ℕ) (i kept zeros : ℕ) → length digits ≤ i → Reached n digits (drop i digits) kept zeros → Stands (digits_value_after 10 n digits) kept zeros
reached_last n digits i kept zeros end r = subst (λ m. Stands m kept zeros) (sym (at_drop_all (digits_value_after 10 r.so_far) digits i end) ∙ r.same) r.stands

pub value_append : (n : ℕ) (xs ys : List ℕ) → digits_value_after 10 n (xs ++ ys) ≡ digits_value_after 10 (digits_value_after 10 n xs) ys
value_append n [] ys = refl
value_append n (x ∷ xs) ys = value_append (n * 10 + digit_value x) xs ys

-- what is kept of the exponent tells the same
pub shift_down : (negative : Bool) (zeros tens size up over : ℕ) → negative ≡ true → zeros ≤ 2 ^ 66 → Means negative size up over → Shift (zeros + up) (tens + over) zeros (tens + size)
shift_down false zeros tens size up over is most m = absurd (cc)
shift_down true zeros tens size up over is most m = by (cases_lt (2 ^ 100) over)
  where
    by : (2 ^ 100 < over) ⊎ (over ≤ 2 ^ 100) → Shift (zeros + up) (tens + over) zeros (tens + size)
    by (inl great) = inr (inr (omega (arith, great, m.1, most), omega (arith, great, m.0, most)))
    by (inr small) = inl (omega (arith, m.0), omega (arith, small, m.1))

pub shift_up : (negative : Bool) (zeros tens size up over : ℕ) → negative ≡ false → tens < 2 ^ 64 → Means negative size up over → Shift (zeros + up) (tens + over) (zeros + size) tens
shift_up true zeros tens size up over is most m = absurd (cc)
shift_up false zeros tens size up over is most m = by (cases_lt (2 ^ 100) up)
  where
    by : (2 ^ 100 < up) ⊎ (up ≤ 2 ^ 100) → Shift (zeros + up) (tens + over) (zeros + size) tens
    by (inl great) = inr (inl (omega (arith, great, m.0, most), omega (arith, great, m.1, most)))
    by (inr small) = inl (omega (arith, small, m.0), omega (arith, m.1))

cancel : (a b p : ℕ) → 0 < p → a * p ≡ b * p → a ≡ b
cancel a b p some is = sym (mul-div_cancel a some) ∙ ap (λ x. x / p) is ∙ mul-div_cancel b some

module _ (n kept zeros : ℕ) (s : Stands n kept zeros) (up down rise fall : ℕ) where
  -- all zeros together
  whole : n * 10 ^ up ≡ s.number * 10 ^ (zeros + up)
  whole = ap (λ x. x * 10 ^ up) s.value ∙ mul_assoc s.number (10 ^ zeros) (10 ^ up) ∙ ap (λ p. s.number * p) (sym (pow-add 10 zeros up))

  -- no value is whole where more tens divide than there are
  no_whole : zeros + up < down → (v : ℕ) → IsScaled n up down v → s.number ≡ 0
  no_whole less v is =
      let k : ℕ = down - suc (zeros + up) in
      let down_is : down ≡ suc k + (zeros + up) = omega (arith, less) in
      let split : 10 ^ down ≡ 10 ^ suc k * 10 ^ (zeros + up) = ap (λ e. 10 ^ e) down_is ∙ pow-add 10 (suc k) (zeros + up) in
      let products : v * 10 ^ suc k * 10 ^ (zeros + up) ≡ s.number * 10 ^ (zeros + up) = mul_assoc v (10 ^ suc k) (10 ^ (zeros + up)) ∙ ap (λ p. v * p) (sym split) ∙ is ∙ whole in
      let number : v * 10 ^ suc k ≡ s.number = cancel _ _ (10 ^ (zeros + up)) (ten_some (zeros + up)) products in
      let ten : v * 10 ^ suc k ≡ v * 10 ^ k * 10 = ap (λ p. v * p) (pow-suc 10 k) ∙ sym (mul_assoc v (10 ^ k) 10) in
      s.last (omega (arith, number, ten))

  -- and otherwise the value is the number with the zeros that are left
  value_is : down ≤ zeros + up → (v : ℕ) → IsScaled n up down v → v ≡ s.number * 10 ^ (zeros + up - down)
  value_is less v is =
      let sum : zeros + up ≡ (zeros + up - down) + down = omega (arith, less) in
      let split : 10 ^ (zeros + up) ≡ 10 ^ (zeros + up - down) * 10 ^ down = ap (λ e. 10 ^ e) sum ∙ pow-add 10 (zeros + up - down) down in
      cancel _ _ (10 ^ down) (ten_some down) (is ∙ whole ∙ ap (λ p. s.number * p) split ∙ sym (mul_assoc s.number (10 ^ (zeros + up - down)) (10 ^ down)))

  is_value : down ≤ zeros + up → IsScaled n up down (s.number * 10 ^ (zeros + up - down))
  is_value less =
      let sum : zeros + up ≡ (zeros + up - down) + down = omega (arith, less) in
      let split : 10 ^ (zeros + up) ≡ 10 ^ (zeros + up - down) * 10 ^ down = ap (λ e. 10 ^ e) sum ∙ pow-add 10 (zeros + up - down) down in
      mul_assoc s.number (10 ^ (zeros + up - down)) (10 ^ down) ∙ ap (λ p. s.number * p) (sym split) ∙ sym whole

  great : (a e : ℕ) → 0 < a → 20 ≤ e → 2 ^ 64 < a * 10 ^ e
  great a e some most =
      let up : 10 ^ 20 ≤ 10 ^ e = pow-le-pow_right {n = 10} (omega arith) {i = 20} {j = e} most in
      let times : 1 * 10 ^ e ≤ a * 10 ^ e = mul-le-mul_right (10 ^ e) some in
      omega (arith, up, times)

  pub zero_value : kept ≡ 0 → IsScaled n up down 0 × (0 ≤ 2 ^ 64)
  zero_value none =
      let cut = s.cut in
      let number : s.number ≡ 0 = omega (arith, cut, none) in
      let nothing : n * 10 ^ up ≡ 0 * 10 ^ (zeros + up) = whole ∙ ap (λ m. m * 10 ^ (zeros + up)) number in
      (omega (arith, nothing), omega arith)

  pub none_below : kept ≢ 0 → Shift (zeros + up) down rise fall → rise < fall → (v : ℕ) → IsScaled n up down v → 2 ^ 64 < v
  none_below some shift less v is = let cut = s.cut in let number = no_whole (by shift) v is in absurd (some (omega (arith, cut, number)))
    where
      by : Shift (zeros + up) down rise fall → zeros + up < down
      by (inl same) = omega (arith, less, same.0, same.1)
      by (inr (inl high)) = absurd (omega (arith, less, high.0))
      by (inr (inr low)) = low.1

  pub none_past : kept ≢ 0 → Shift (zeros + up) down rise fall → fall ≤ rise → (value : ℕ) → value ≡ min (kept * 10 ^ (rise - fall)) (2 ^ 64 + 1) → 2 ^ 64 < value → (v : ℕ) → IsScaled n up down v → 2 ^ 64 < v
  none_past some shift more value cut past v is = by shift
    where
      by : Shift (zeros + up) down rise fall → 2 ^ 64 < v
      by (inl same) =
          let exact = value_is (omega (arith, more, same.0, same.1)) v is in
          let e : rise - fall ≡ zeros + up - down = omega (arith, same.0, same.1) in
          let moved : kept * 10 ^ (rise - fall) ≡ kept * 10 ^ (zeros + up - down) = ap (λ d. kept * 10 ^ d) e in
          let part : kept ≤ s.number = (let c = s.cut in omega (arith, c)) in
          let times : kept * 10 ^ (zeros + up - down) ≤ s.number * 10 ^ (zeros + up - down) = mul-le-mul_right (10 ^ (zeros + up - down)) part in
          omega (arith, exact, moved, times, cut, past)
      by (inr (inl high)) =
          let exact = value_is (let h = high.1 in omega (arith, h)) v is in
          let number : 0 < s.number = (let c = s.cut in omega (arith, c, some)) in
          let far = great s.number (zeros + up - down) number (let h = high.1 in omega (arith, h)) in
          omega (arith, exact, far)
      by (inr (inr low)) = absurd (omega (arith, more, low.0))

  pub some_value : kept ≢ 0 → Shift (zeros + up) down rise fall → fall ≤ rise → (value : ℕ) → value ≡ min (kept * 10 ^ (rise - fall)) (2 ^ 64 + 1) → value ≤ 2 ^ 64 → IsScaled n up down value × (value ≤ 2 ^ 64)
  some_value some shift more value cut small = by shift
    where
      by : Shift (zeros + up) down rise fall → IsScaled n up down value × (value ≤ 2 ^ 64)
      by (inl same) =
          let e : rise - fall ≡ zeros + up - down = omega (arith, same.0, same.1) in
          let exact : value ≡ kept * 10 ^ (zeros + up - down) = (let moved : kept * 10 ^ (rise - fall) ≡ kept * 10 ^ (zeros + up - down) = ap (λ d. kept * 10 ^ d) e in omega (arith, cut, small, moved)) in
          let part : kept * 1 ≤ kept * 10 ^ (zeros + up - down) = mul-le-mul_left kept (ten_some (zeros + up - down)) in
          let number : kept ≡ s.number = (let c = s.cut in omega (arith, c, part, exact, small)) in
          (subst (IsScaled n up down) (sym (exact ∙ ap (λ k. k * 10 ^ (zeros + up - down)) number)) (is_value (omega (arith, more, same.0, same.1))), small)
      by (inr (inl high)) =
          let far = great kept (rise - fall) (omega (arith, some)) (let h = high.0 in omega (arith, h)) in
          absurd (omega (arith, cut, far, small))
      by (inr (inr low)) = absurd (omega (arith, more, low.0))

-- no digits are 0
pub stands_start : Stands 0 0 0
stands_start = record { number = 0; value = refl; cut = refl; last = λ none. refl }
