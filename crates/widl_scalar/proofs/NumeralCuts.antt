-- The parts of a numeral are cut in one way.
use Rattle.std.proofs.Common.{◌≡◌, ◌≢◌, ℕ, ◌-◌, ◌^◌, ◌<◌, ◌≤◌, ◌⊎◌, inl, inr, Bool, true, false, List, [], ◌∷◌, ◌++◌, length, get_or, take, drop, min, refl, sym, ap, subst, ◌∙◌, arith}
use Rattle.std.specs.Prelude.{◌==◌}
use Rattle.std.proofs.lemmas.Bool.{cases_eq, true≢false}
use Rattle.std.proofs.lemmas.Bool.Decides.{nat_tests}
use Rattle.std.proofs.lemmas.List.{append-nil, nil_from_length, take_rest}
use Rattle.std.proofs.lemmas.Str.Parse.{digit_at}
use Rattle.std.specs.Char.{digit_value}
use Rattle.std.specs.Str.Parse.{AllDigits, digits_value}
use Rattle.widl_scalar.specs.DecimalScales.{Means}
use Rattle.widl_scalar.specs.NumeralParts.{IsDigitCut, IsSignCut, NoDigitFirst}
use Rattle.widl_scalar.specs.Numerals.{IsExponent, IsSign, IsTail}

head_of : (x y : ℕ) (xs ys : List ℕ) → x ∷ xs ≡ y ∷ ys → x ≡ y
head_of x y xs ys is = cc

tail_of : (x y : ℕ) (xs ys : List ℕ) → x ∷ xs ≡ y ∷ ys → xs ≡ ys
tail_of x y xs ys is = cc

-- two cuts after a run of digits are one
pub same_run : (front back first rest : List ℕ) → front ++ back ≡ first ++ rest → AllDigits 10 front → AllDigits 10 first → NoDigitFirst back → NoDigitFirst rest → (front ≡ first) × (back ≡ rest)
same_run [] back [] rest is f g b r = (refl, is)
same_run [] [] (y ∷ ys) rest is f g b r = absurd (cc)
same_run [] (x ∷ xs) (y ∷ ys) rest is f g b r =
    let same = head_of x y xs (ys ++ rest) is in
    let high = b (omega arith) in
    let value : digit_value x ≡ digit_value y = ap digit_value same in
    let low = g.0 in
    absurd (omega (arith, high, value, low))
same_run (x ∷ xs) back [] [] is f g b r = absurd (cc)
same_run (x ∷ xs) back [] (y ∷ ys) is f g b r =
    let same = head_of x y (xs ++ back) ys is in
    let high = r (omega arith) in
    let value : digit_value x ≡ digit_value y = ap digit_value same in
    let low = f.0 in
    absurd (omega (arith, high, value, low))
same_run (x ∷ xs) back (y ∷ ys) rest is f g b r =
    let more = same_run xs back ys rest (tail_of x y (xs ++ back) (ys ++ rest) is) f.1 g.1 b r in
    let same = head_of x y (xs ++ back) (ys ++ rest) is in
    (cc, more.1)

-- a unit that stands first is the front of the text
front_is : (text : List ℕ) (unit : ℕ) → 0 < length text → get_or text 0 0 ≡ unit → text ≡ unit ∷ drop 1 text
front_is [] unit some is = absurd (omega (arith, some))
front_is (u ∷ us) unit some is = ap (λ x. x ∷ us) is

pub point_first : (text front back : List ℕ) → 1 ≤ length text → get_or text 0 0 ≡ 46 → take (length text - 1) (drop 1 text) ≡ front ++ back → text ≡ 46 ∷ (front ++ back)
point_first text front back some is cut = front_is text 46 (omega (arith, some)) is ∙ ap (λ us. 46 ∷ us) (sym (take_rest text 1) ∙ cut)

-- a sign is cut in one way from what does not begin with one
pub same_sign : (text rest : List ℕ) (negative : Bool) → IsSignCut text negative rest → (signed : Bool) (sign unsigned : List ℕ) → IsSign signed sign → text ≡ sign ++ unsigned → get_or unsigned 0 0 ≢ 43 → get_or unsigned 0 0 ≢ 45 → (signed ≡ negative) × (unsigned ≡ rest)
same_sign text rest negative cut true sign unsigned is_sign is plus minus =
    let whole : text ≡ 45 ∷ unsigned = is ∙ ap (λ s. s ++ unsigned) is_sign in
    let m = cut.minus (ap (λ t. get_or t 0 0) whole) in
    (sym m.0, sym (m.1 ∙ ap (λ t. drop 1 t) whole))
same_sign text rest negative cut false sign unsigned (inl none) is plus minus =
    let whole : text ≡ unsigned = is ∙ ap (λ s. s ++ unsigned) none in
    let n = cut.none (λ e. minus (sym (ap (λ t. get_or t 0 0) whole) ∙ e)) (λ e. plus (sym (ap (λ t. get_or t 0 0) whole) ∙ e)) in
    (sym n.0, sym (n.1 ∙ whole))
same_sign text rest negative cut false sign unsigned (inr sign_is) is plus minus =
    let whole : text ≡ 43 ∷ unsigned = is ∙ ap (λ s. s ++ unsigned) sign_is in
    let p = cut.plus (ap (λ t. get_or t 0 0) whole) in
    (sym p.0, sym (p.1 ∙ ap (λ t. drop 1 t) whole))

-- and there is such a cut
pub sign_found : (text rest : List ℕ) (negative : Bool) → IsSignCut text negative rest → (sign : List ℕ) × IsSign negative sign × (text ≡ sign ++ rest)
sign_found [] rest negative cut = let n = cut.none (λ e. absurd (omega (arith, e))) (λ e. absurd (omega (arith, e))) in ([], subst (λ b. IsSign b []) (sym n.0) (inl refl), sym n.1)
sign_found (u ∷ us) rest negative cut = by (cases_eq u 45) (cases_eq u 43)
  where
    by : (u ≡ 45) ⊎ (u ≡ 45 → ⊥) → (u ≡ 43) ⊎ (u ≡ 43 → ⊥) → (sign : List ℕ) × IsSign negative sign × (u ∷ us ≡ sign ++ rest)
    by (inl is) other = let m = cut.minus is in (45 ∷ [], subst (λ b. IsSign b (45 ∷ [])) (sym m.0) refl, ap (λ x. x ∷ us) is ∙ ap (λ r. 45 ∷ r) (sym m.1))
    by (inr not) (inl is) = let p = cut.plus is in (43 ∷ [], subst (λ b. IsSign b (43 ∷ [])) (sym p.0) (inr refl), ap (λ x. x ∷ us) is ∙ ap (λ r. 43 ∷ r) (sym p.1))
    by (inr not) (inr nor) = let n = cut.none not nor in ([], subst (λ b. IsSign b []) (sym n.0) (inl refl), sym n.1)

pub no_sign : (digits : List ℕ) → 0 < length digits → AllDigits 10 digits → (get_or digits 0 0 ≢ 43) × (get_or digits 0 0 ≢ 45)
no_sign digits some are = let range = digit_at digits 0 are some in let low = range.0 in ((λ e. omega (arith, e, low)), (λ e. omega (arith, e, low)))

module _ (text digits front back : List ℕ) (negative : Bool) (sign_cut : IsSignCut (drop 1 text) negative digits) (cut : IsDigitCut digits front back) where
  -- an exponent has this sign and these digits, and nothing follows
  same_exponent : (up over : ℕ) (e : IsExponent text up over) → (e.negative ≡ negative) × (e.digits ≡ front) × (back ≡ [])
  same_exponent up over e =
      let head = no_sign e.digits e.some e.are_digits in
      let sign = same_sign (drop 1 text) digits negative sign_cut e.negative e.sign e.digits e.is_sign (ap (λ t. drop 1 t) e.is) head.0 head.1 in
      let run = same_run e.digits [] front back (append-nil e.digits ∙ sign.1 ∙ cut.is) e.are_digits cut.digits (λ some. absurd (omega (arith, some))) cut.ends in
      (sign.0, run.0, sym run.1)

  pub exponent_none : 0 < length text → (length front ≡ 0) ⊎ (0 < length back) → (up over : ℕ) → IsTail text up over → ⊥
  exponent_none some bad up over (inr none) = let empty : length text ≡ 0 = ap length none.0 in omega (arith, some, empty)
  exponent_none some bad up over (inl e) = by bad (same_exponent up over e)
    where
      by : (length front ≡ 0) ⊎ (0 < length back) → (e.negative ≡ negative) × (e.digits ≡ front) × (back ≡ []) → ⊥
      by (inl short) same = let l : length e.digits ≡ length front = ap length same.1 in let more = e.some in omega (arith, l, short, more)
      by (inr long) same = let l : length back ≡ 0 = ap length same.2 in omega (arith, l, long)

  pub exponent_means : 0 < length text → (size : ℕ) → size ≡ min (digits_value 10 front) (2 ^ 100) → (up over : ℕ) → IsTail text up over → Means negative size up over
  exponent_means some size is up over (inr none) = let empty : length text ≡ 0 = ap length none.0 in absurd (omega (arith, some, empty))
  exponent_means some size is up over (inl e) = let same = same_exponent up over e in subst (λ b. Means b size up over) same.0 (by e.negative refl same.1)
    where
      by : (b : Bool) → e.negative ≡ b → e.digits ≡ front → Means e.negative size up over
      by true b same = let o = e.overs b in subst (λ x. Means x size up over) (sym b) (o.0, is ∙ ap (λ n. min n (2 ^ 100)) (sym (o.1 ∙ ap (digits_value 10) same)))
      by false b same = let u = e.ups b in subst (λ x. Means x size up over) (sym b) (is ∙ ap (λ n. min n (2 ^ 100)) (sym (u.0 ∙ ap (digits_value 10) same)), u.1)

  pub exponent_found : 0 < length text → (get_or text 0 0 ≡ 101) ⊎ (get_or text 0 0 ≡ 69) → 0 < length front → length back ≡ 0 → (up : ℕ) × (over : ℕ) × IsTail text up over
  exponent_found some mark more none = by negative refl
    where
      sign : (sign : List ℕ) × IsSign negative sign × (drop 1 text ≡ sign ++ digits)
      sign = sign_found (drop 1 text) digits negative sign_cut

      alone : digits ≡ front
      alone = cut.is ∙ ap (λ b. front ++ b) (nil_from_length back none) ∙ append-nil front

      is : text ≡ get_or text 0 0 ∷ (sign.0 ++ front)
      is = front_is text (get_or text 0 0) some refl ∙ ap (λ t. get_or text 0 0 ∷ t) (sign.2 ∙ ap (λ d. sign.0 ++ d) alone)

      by : (b : Bool) → negative ≡ b → (up : ℕ) × (over : ℕ) × IsTail text up over
      by true b = (0, digits_value 10 front, inl (record { negative = negative; mark = get_or text 0 0; is_mark = mark; sign = sign.0; is_sign = sign.1; digits = front; are_digits = cut.digits; some = more; is = is; ups = λ f. absurd (true≢false (sym b ∙ f)); overs = λ f. (refl, refl) }))
      by false b = (digits_value 10 front, 0, inl (record { negative = negative; mark = get_or text 0 0; is_mark = mark; sign = sign.0; is_sign = sign.1; digits = front; are_digits = cut.digits; some = more; is = is; ups = λ f. (refl, refl); overs = λ f. absurd (true≢false (sym f ∙ b)) }))

pub not_empty : (n : ℕ) → false ≡ (n == 0) → 0 < n
not_empty n h = grind (arith, nat_tests)

pub empty : (n : ℕ) → true ≡ (n == 0) → n ≡ 0
empty n h = grind (arith, nat_tests)
