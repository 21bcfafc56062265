-- What is read of a whole text follows from its front.
use Rattle.std.proofs.Common.{◌≡◌, ◌≢◌, ℕ, ◌+◌, ◌<◌, ◌≤◌, ◌⊎◌, inl, inr, Bool, true, false, List, [], ◌∷◌, ◌++◌, length, get_or, drop, Option, Some, None, refl, sym, ap, subst, ◌∙◌, arith}
use Rattle.std.specs.Prelude.{codes, if◌then◌else◌}
use Rattle.std.proofs.lemmas.Bool.{cases_lt}
use Rattle.std.proofs.lemmas.Bool.Decides.{nat_tests}
use Rattle.std.proofs.lemmas.List.{length-append}
use Rattle.std.proofs.lemmas.Str.Parse.{digit_at}
use Rattle.std.specs.Char.{digit_value}
use Rattle.std.specs.Option.{unwrap_or}
use Rattle.std.specs.Str.Parse.{AllDigits, digits_value}
use Rattle.widl_value.specs.declared.number.Number.TheVariants as numbers
use Rattle.widl_scalar.specs.declared.numerals.Read.{Read}
use Rattle.widl_scalar.specs.declared.numerals.Read.TheVariants as reads
use Rattle.widl_scalar.specs.NumeralParts.{IsDigitCut, IsFractionCut, IsSignCut}
use Rattle.widl_scalar.specs.Numerals.{Answers, IsDecimal, IsInfinity, IsRadix, IsSign, IsTail, IsUnsigned, Reads, base_of}
use Rattle.widl_scalar.specs.RadixTexts.{IsPrefixCut, ReadsRadix, ReadsUnsigned}
use Rattle.widl_scalar.proofs.NumeralCuts.{same_sign, sign_found}
use Rattle.widl_scalar.proofs.NumeralReads.{mark_of, same_parts}

-- a numeral without a sign begins with a digit or a point
unsigned_head : (text digits : List ℕ) (up down : ℕ) → IsUnsigned text digits up down → (46 ≤ get_or text 0 0) × (get_or text 0 0 ≤ 57)
unsigned_head text digits up down u = by u.whole u.are_whole refl u.is_point
  where
    by : (whole : List ℕ) → AllDigits 10 whole → u.whole ≡ whole → (u.point ≡ 46 ∷ []) ⊎ ((u.point ≡ []) × (u.fraction ≡ [])) → (46 ≤ get_or text 0 0) × (get_or text 0 0 ≤ 57)
    by [] are is (inl point) =
        let head : get_or text 0 0 ≡ 46 = ap (λ l. get_or l 0 0) (u.is ∙ ap (λ w. w ++ (u.point ++ (u.fraction ++ u.tail))) is ∙ ap (λ p. p ++ (u.fraction ++ u.tail)) point) in
        (omega (arith, head), omega (arith, head))
    by [] are is (inr none) =
        let long : length digits ≡ 0 = ap length (u.all ∙ ap (λ w. w ++ u.fraction) is ∙ none.1) in
        let some = u.some in
        absurd (omega (arith, long, some))
    by (d ∷ ds) are is point =
        let head : get_or text 0 0 ≡ d = ap (λ l. get_or l 0 0) (u.is ∙ ap (λ w. w ++ (u.point ++ (u.fraction ++ u.tail))) is) in
        let range = digit_at (d ∷ ds) 0 are (omega arith) in
        let low = range.0 in let high = range.1 in
        (omega (arith, head, low), omega (arith, head, high))

same_some : (a b : ℕ) → ◌≡◌ {A = Option ℕ} (Some a) (Some b) → a ≡ b
same_some a b is = ap (λ o. unwrap_or o 0) is

-- the letter of a base is no digit, no point and no mark of an exponent
digit_no_base : (letter : ℕ) → digit_value letter < 10 → base_of letter ≡ None
digit_no_base letter low = grind (arith, nat_tests)

letter_no_digit : (letter base : ℕ) → base_of letter ≡ Some base → 10 ≤ digit_value letter
letter_no_digit letter base is = by (cases_lt (digit_value letter) 10)
  where
    by : (digit_value letter < 10) ⊎ (10 ≤ digit_value letter) → 10 ≤ digit_value letter
    by (inl low) = let none = digit_no_base letter low in absurd (cc)
    by (inr high) = high

letter_is_not : (letter base other : ℕ) → base_of letter ≡ Some base → base_of other ≡ None → letter ≢ other
letter_is_not letter base other is none same = let moved : base_of letter ≡ base_of other = ap base_of same in absurd (cc)

module _ (text rest : List ℕ) (base : ℕ) (p : IsPrefixCut text base rest) where
  no_unsigned : (digits : List ℕ) (up down : ℕ) → IsUnsigned text digits up down → ⊥
  no_unsigned digits up down u = by (mark_of (p.letter ∷ rest) up u.over (subst (λ t. IsTail t up u.over) same.2 u.is_tail))
    where
      cut : IsDigitCut text (48 ∷ []) (p.letter ∷ rest)
      cut = record { is = p.is; digits = (omega arith, tt); ends = λ some. letter_no_digit p.letter base p.is_letter }

      part : IsFractionCut (p.letter ∷ rest) [] (p.letter ∷ rest)
      part = record { point = []; is_point = inr (refl, refl, letter_is_not p.letter base 46 p.is_letter refl); is = refl; digits = tt; ends = λ some. letter_no_digit p.letter base p.is_letter }

      same : (u.whole ≡ 48 ∷ []) × (u.fraction ≡ []) × (u.tail ≡ p.letter ∷ rest)
      same = same_parts text (48 ∷ []) (p.letter ∷ rest) [] (p.letter ∷ rest) cut part digits up down u

      by : (p.letter ≡ 101) ⊎ ((p.letter ≡ 69) ⊎ (length (p.letter ∷ rest) ≡ 0)) → ⊥
      by (inl e) = letter_is_not p.letter base 101 p.is_letter refl e
      by (inr (inl e)) = letter_is_not p.letter base 69 p.is_letter refl e
      by (inr (inr none)) = omega (arith, none)

  head : get_or text 0 0 ≡ 48
  head = ap (λ l. get_or l 0 0) p.is

  -- after a sign stands no zero that is the front
  signed_front : (negative : Bool) (sign unsigned : List ℕ) → IsSign negative sign → text ≡ sign ++ unsigned → text ≡ unsigned
  signed_front true sign unsigned is_sign is = let front : get_or text 0 0 ≡ 45 = ap (λ l. get_or l 0 0) (is ∙ ap (λ s. s ++ unsigned) is_sign) in absurd (omega (arith, head, front))
  signed_front false sign unsigned (inl none) is = is ∙ ap (λ s. s ++ unsigned) none
  signed_front false sign unsigned (inr plus) is = let front : get_or text 0 0 ≡ 43 = ap (λ l. get_or l 0 0) (is ∙ ap (λ s. s ++ unsigned) plus) in absurd (omega (arith, head, front))

  pub prefix_reads : (read : Read) → ReadsRadix base rest read → Reads text read
  prefix_reads read r = record {
    empty = λ none. absurd (let front : get_or text 0 0 ≡ 0 = ap (λ l. get_or l 0 0) none in omega (arith, head, front));
    infinite = λ negative i. absurd (let front : get_or text 0 0 ≡ 73 = ap (λ l. get_or l 0 0) (signed_front negative i.sign (codes "Infinity") i.is_sign i.is) in omega (arith, head, front));
    decimal = λ negative digits up down d. absurd (no_unsigned digits up down (subst (λ t. IsUnsigned t digits up down) (sym (signed_front negative d.sign d.unsigned d.is_sign d.is)) d.is_unsigned));
    radix = λ b digits x. told b digits x;
    other = λ some no_infinity no_decimal no_radix. r.none (λ are some. no_radix base rest (record { letter = p.letter; is_letter = p.is_letter; are_digits = are; some = some; is = p.is }));
  }
    where
      told : (b : ℕ) (digits : List ℕ) → IsRadix text b digits → Answers false (digits_value b digits) 0 0 read
      told b digits x =
          let both : p.letter ∷ rest ≡ x.letter ∷ digits = ap (λ l. drop 1 l) (sym p.is ∙ x.is) in
          let letters : p.letter ≡ x.letter = ap (λ l. get_or l 0 0) both in
          let same : rest ≡ digits = ap (λ l. drop 1 l) both in
          let bases : base ≡ b = same_some base b (sym p.is_letter ∙ ap base_of letters ∙ x.is_letter) in
          subst (λ ds. Answers false (digits_value b ds) 0 0 read) same (subst (λ n. Answers false (digits_value n rest) 0 0 read) bases (r.some (subst (λ n. AllDigits n rest) (sym bases) (subst (AllDigits b) (sym same) x.are_digits)) (subst (λ ds. 0 < length ds) (sym same) x.some)))

module _ (text rest : List ℕ) (negative : Bool) (cut : IsSignCut text negative rest) (plain : (base : ℕ) (back : List ℕ) → IsPrefixCut text base back → ⊥) where
  no_radix : (base : ℕ) (digits : List ℕ) → IsRadix text base digits → ⊥
  no_radix base digits x = plain base digits (record { letter = x.letter; is_letter = x.is_letter; is = x.is })

  decimal_rest : (b : Bool) (digits : List ℕ) (up down : ℕ) (d : IsDecimal text b digits up down) → (b ≡ negative) × (d.unsigned ≡ rest)
  decimal_rest b digits up down d =
      let range = unsigned_head d.unsigned digits up down d.is_unsigned in
      let low = range.0 in
      same_sign text rest negative cut b d.sign d.unsigned d.is_sign d.is (λ e. omega (arith, e, low)) (λ e. omega (arith, e, low))

  infinite_rest : (b : Bool) → IsInfinity text b → (b ≡ negative) × (codes "Infinity" ≡ rest)
  infinite_rest b i = same_sign text rest negative cut b i.sign (codes "Infinity") i.is_sign i.is (λ e. omega (arith, e)) (λ e. omega (arith, e))

  sign : (sign : List ℕ) × IsSign negative sign × (text ≡ sign ++ rest)
  sign = sign_found text rest negative cut

  pub infinite_reads : rest ≡ codes "Infinity" → (read : Read) → read ≡ reads.Number (if negative then numbers.NegInf else numbers.PosInf) → Reads text read
  infinite_reads is read answer = record {
    empty = λ none. absurd (let long : length text ≡ length sign.0 + length rest = ap length sign.2 ∙ length-append sign.0 rest in let short : length text ≡ 0 = ap length none in let eight : length rest ≡ 8 = ap length is in omega (arith, long, short, eight));
    infinite = λ b i. answer ∙ ap (λ n. reads.Number (if n then numbers.NegInf else numbers.PosInf)) (sym (infinite_rest b i).0);
    decimal = λ b digits up down d. absurd (
        let range = unsigned_head d.unsigned digits up down d.is_unsigned in
        let high = range.1 in
        let front : get_or d.unsigned 0 0 ≡ 73 = ap (λ l. get_or l 0 0) ((decimal_rest b digits up down d).1 ∙ is) in
        omega (arith, front, high));
    radix = λ base digits x. absurd (no_radix base digits x);
    other = λ some no_infinity no_decimal none. absurd (no_infinity negative (record { sign = sign.0; is_sign = sign.1; is = sign.2 ∙ ap (λ r. sign.0 ++ r) is }));
  }

  pub decimal_reads : 0 < length text → (rest ≡ codes "Infinity" → ⊥) → (read : Read) → ReadsUnsigned negative rest read → Reads text read
  decimal_reads some finite read r = record {
    empty = λ none. absurd (let short : length text ≡ 0 = ap length none in omega (arith, some, short));
    infinite = λ b i. absurd (finite (sym (infinite_rest b i).1));
    decimal = λ b digits up down d.
        let same = decimal_rest b digits up down d in
        subst (λ n. Answers n (digits_value 10 digits) up down read) (sym same.0) (r.some digits up down (subst (λ t. IsUnsigned t digits up down) same.1 d.is_unsigned));
    radix = λ base digits x. absurd (no_radix base digits x);
    other = λ more no_infinity no_decimal none. r.none (λ digits up down u. no_decimal negative digits up down (record { sign = sign.0; is_sign = sign.1; unsigned = rest; is_unsigned = u; is = sign.2 }));
  }
