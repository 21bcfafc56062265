-- What is read of a numeral follows from its parts.
use Rattle.std.proofs.Common.{◌≡◌, ◌≢◌, ℕ, suc, zero, ◌+◌, ◌*◌, ◌^◌, ◌<◌, ◌≤◌, ◌⊎◌, inl, inr, Bool, false, List, [], ◌∷◌, ◌++◌, length, get_or, take, drop, min, refl, sym, ap, subst, ◌∙◌, arith}
use Rattle.std.proofs.lemmas.Int.Digits.{digits_value_more}
use Rattle.std.proofs.lemmas.List.{length-append}
use Rattle.std.specs.Char.{digit_value}
use Rattle.std.specs.Str.Parse.{AllDigits, digits_value}
use Rattle.widl_value.specs.declared.number.Number.TheVariants as numbers
use Rattle.widl_scalar.specs.declared.numerals.Read.{Read}
use Rattle.widl_scalar.specs.declared.numerals.Read.TheVariants as reads
use Rattle.widl_scalar.specs.NumeralParts.{IsDigitCut, IsFractionCut, NoDigitFirst}
use Rattle.widl_scalar.specs.Numerals.{Answers, IsTail, IsUnsigned}
use Rattle.widl_scalar.specs.RadixTexts.{ReadsRadix, ReadsUnsigned}
use Rattle.widl_scalar.proofs.NumeralCuts.{same_run}
use Rattle.widl_scalar.proofs.TenScales.{cut_times}

pub digit_below : (base : ℕ) (digits : List ℕ) (i : ℕ) → AllDigits base digits → i < length digits → digit_value (get_or digits i 0) < base
digit_below base [] i are within = absurd (omega (arith, within))
digit_below base (d ∷ ds) zero are within = are.0
digit_below base (d ∷ ds) (suc i) are within = digit_below base ds i are.1 (omega (arith, within))

-- one digit more of any base
pub more_value : (base : ℕ) (digits : List ℕ) (i number digit now : ℕ) → i < length digits → digit ≡ digit_value (get_or digits i 0) → digit < base
    → number ≡ min (digits_value base (take i digits)) (2 ^ 64 + 1) → now ≡ min (number * base + digit) (2 ^ 64 + 1) → now ≡ min (digits_value base (take (i + 1) digits)) (2 ^ 64 + 1)
more_value base digits i number digit now within is small so_far next =
    let more = digits_value_more base digits i within in
    let cut = cut_times (digits_value base (take i digits)) number base (omega (arith, small)) so_far in
    omega (arith, more, cut, next, is)

pub radix_reads : (base : ℕ) (digits : List ℕ) (read : Read) → AllDigits base digits → 0 < length digits → Answers false (digits_value base digits) 0 0 read → ReadsRadix base digits read
radix_reads base digits read are some answer = record { some = λ a s. answer; none = λ none. absurd (none are some) }

-- an exponent, or none, begins with no digit and no point
pub mark_of : (tail : List ℕ) (up over : ℕ) → IsTail tail up over → (get_or tail 0 0 ≡ 101) ⊎ ((get_or tail 0 0 ≡ 69) ⊎ (length tail ≡ 0))
mark_of tail up over (inr none) = inr (inr (ap length none.0))
mark_of tail up over (inl e) = by e.is_mark
  where
    by : (e.mark ≡ 101) ⊎ (e.mark ≡ 69) → (get_or tail 0 0 ≡ 101) ⊎ ((get_or tail 0 0 ≡ 69) ⊎ (length tail ≡ 0))
    by (inl is) = inl (ap (λ t. get_or t 0 0) e.is ∙ is)
    by (inr is) = inr (inl (ap (λ t. get_or t 0 0) e.is ∙ is))

tail_plain : (tail : List ℕ) (up over : ℕ) → IsTail tail up over → NoDigitFirst tail
tail_plain tail up over is some = by (mark_of tail up over is)
  where
    by : (get_or tail 0 0 ≡ 101) ⊎ ((get_or tail 0 0 ≡ 69) ⊎ (length tail ≡ 0)) → 10 ≤ digit_value (get_or tail 0 0)
    by (inl e) = subst (λ u. 10 ≤ digit_value u) (sym e) (omega arith)
    by (inr (inl e)) = subst (λ u. 10 ≤ digit_value u) (sym e) (omega arith)
    by (inr (inr none)) = absurd (omega (arith, some, none))

tail_no_point : (tail : List ℕ) (up over : ℕ) → IsTail tail up over → get_or tail 0 0 ≢ 46
tail_no_point [] up over is e = absurd (omega (arith, e))
tail_no_point (u ∷ us) up over is e = by (mark_of (u ∷ us) up over is)
  where
    by : (u ≡ 101) ⊎ ((u ≡ 69) ⊎ (length (u ∷ us) ≡ 0)) → ⊥
    by (inl m) = omega (arith, m, e)
    by (inr (inl m)) = omega (arith, m, e)
    by (inr (inr none)) = omega (arith, none)

module _ (text w r f t : List ℕ) (cut : IsDigitCut text w r) (part : IsFractionCut r f t) where
  rest_plain : (digits : List ℕ) (up down : ℕ) (u : IsUnsigned text digits up down) → NoDigitFirst (u.point ++ (u.fraction ++ u.tail))
  rest_plain digits up down u = by u.is_point
    where
      by : (u.point ≡ 46 ∷ []) ⊎ ((u.point ≡ []) × (u.fraction ≡ [])) → NoDigitFirst (u.point ++ (u.fraction ++ u.tail))
      by (inl is) = subst (λ p. NoDigitFirst (p ++ (u.fraction ++ u.tail))) (sym is) (λ some. omega arith)
      by (inr none) = subst (λ p. NoDigitFirst (p ++ (u.fraction ++ u.tail))) (sym none.0) (subst (λ g. NoDigitFirst (g ++ u.tail)) (sym none.1) (tail_plain u.tail up u.over u.is_tail))

  -- the parts are those that were cut
  pub same_parts : (digits : List ℕ) (up down : ℕ) (u : IsUnsigned text digits up down) → (u.whole ≡ w) × (u.fraction ≡ f) × (u.tail ≡ t)
  same_parts digits up down u =
      let run = same_run u.whole (u.point ++ (u.fraction ++ u.tail)) w r (sym u.is ∙ cut.is) u.are_whole cut.digits (rest_plain digits up down u) cut.ends in
      let rest = by u.is_point part.is_point (run.1) in
      (run.0, rest.0, rest.1)
    where
      by : (u.point ≡ 46 ∷ []) ⊎ ((u.point ≡ []) × (u.fraction ≡ [])) → (part.point ≡ 46 ∷ []) ⊎ ((part.point ≡ []) × (f ≡ []) × (get_or r 0 0 ≢ 46)) → u.point ++ (u.fraction ++ u.tail) ≡ r → (u.fraction ≡ f) × (u.tail ≡ t)
      by (inl is) (inl that) rest =
          let both : 46 ∷ (u.fraction ++ u.tail) ≡ 46 ∷ (f ++ t) = sym (ap (λ p. p ++ (u.fraction ++ u.tail)) is) ∙ rest ∙ part.is ∙ ap (λ p. p ++ (f ++ t)) that in
          same_run u.fraction u.tail f t (ap (λ l. drop 1 l) both) u.are_fraction part.digits (tail_plain u.tail up u.over u.is_tail) part.ends
      by (inl is) (inr that) rest = absurd (that.2 (ap (λ l. get_or l 0 0) (sym rest ∙ ap (λ p. p ++ (u.fraction ++ u.tail)) is)))
      by (inr none) (inl that) rest =
          let alone : r ≡ u.tail = sym rest ∙ ap (λ p. p ++ (u.fraction ++ u.tail)) none.0 ∙ ap (λ g. g ++ u.tail) none.1 in
          let point : get_or r 0 0 ≡ 46 = ap (λ l. get_or l 0 0) (part.is ∙ ap (λ p. p ++ (f ++ t)) that) in
          absurd (tail_no_point u.tail up u.over u.is_tail (ap (λ l. get_or l 0 0) (sym alone) ∙ point))
      by (inr none) (inr that) rest =
          let alone : r ≡ u.tail = sym rest ∙ ap (λ p. p ++ (u.fraction ++ u.tail)) none.0 ∙ ap (λ g. g ++ u.tail) none.1 in
          let other : r ≡ t = part.is ∙ ap (λ p. p ++ (f ++ t)) that.0 ∙ ap (λ g. g ++ t) that.1 in
          (none.1 ∙ sym that.1, sym alone ∙ other)

  -- no numeral stands there without a digit, or with another end than an exponent
  pub unsigned_none : length w ≡ 0 → length f ≡ 0 → (digits : List ℕ) (up down : ℕ) → IsUnsigned text digits up down → ⊥
  unsigned_none no_whole no_fraction digits up down u =
      let same = same_parts digits up down u in
      let long : length digits ≡ length w + length f = ap length u.all ∙ length-append u.whole u.fraction ∙ ap (λ x. length x + length u.fraction) same.0 ∙ ap (λ x. length w + length x) same.1 in
      let some = u.some in
      omega (arith, long, some, no_whole, no_fraction)

  pub unsigned_empty : (negative : Bool) → length w ≡ 0 → length f ≡ 0 → ReadsUnsigned negative text (reads.Number numbers.NaN)
  unsigned_empty negative no_whole no_fraction = record {
    some = λ digits up down u. absurd (unsigned_none no_whole no_fraction digits up down u);
    none = λ h. refl;
  }

  pub unsigned_no_end : (negative : Bool) → ((up over : ℕ) → IsTail t up over → ⊥) → ReadsUnsigned negative text (reads.Number numbers.NaN)
  unsigned_no_end negative none = record {
    some = λ digits up down u. absurd (none up u.over (subst (λ x. IsTail x up u.over) (same_parts digits up down u).2 u.is_tail));
    none = λ h. refl;
  }

  pub unsigned_there : (0 < length w) ⊎ (0 < length f) → (up over : ℕ) → IsTail t up over → IsUnsigned text (w ++ f) up (length f + over)
  unsigned_there some up over tail = there
    where
      more : (0 < length w) ⊎ (0 < length f) → 0 < length (w ++ f)
      more (inl long) = omega (arith, length-append w f, long)
      more (inr long) = omega (arith, length-append w f, long)

      point_of : (part.point ≡ 46 ∷ []) ⊎ ((part.point ≡ []) × (f ≡ []) × (get_or r 0 0 ≢ 46)) → (part.point ≡ 46 ∷ []) ⊎ ((part.point ≡ []) × (f ≡ []))
      point_of (inl is) = inl is
      point_of (inr none) = inr (none.0, none.1)

      there : IsUnsigned text (w ++ f) up (length f + over)
      there = record {
        whole = w;
        fraction = f;
        all = refl;
        are_whole = cut.digits;
        are_fraction = part.digits;
        some = more some;
        point = part.point;
        is_point = point_of part.is_point;
        tail = t;
        over = over;
        is_tail = tail;
        is = cut.is ∙ ap (λ x. w ++ x) part.is;
        under = refl;
      }

  pub unsigned_reads : (negative : Bool) (read : Read) → (0 < length w) ⊎ (0 < length f)
      → ((up over : ℕ) → IsTail t up over → Answers negative (digits_value 10 (w ++ f)) up (length f + over) read)
      → ((up : ℕ) × (over : ℕ) × IsTail t up over) → ReadsUnsigned negative text read
  unsigned_reads negative read some answer found = record {
    some = λ digits up down u. told digits up down u;
    none = λ h. absurd (h (w ++ f) found.0 (length f + found.1) (unsigned_there some found.0 found.1 found.2));
  }
    where
      told : (digits : List ℕ) (up down : ℕ) → IsUnsigned text digits up down → Answers negative (digits_value 10 digits) up down read
      told digits up down u =
          let same = same_parts digits up down u in
          let all : w ++ f ≡ digits = sym (u.all ∙ ap (λ x. x ++ u.fraction) same.0 ∙ ap (λ x. w ++ x) same.1) in
          let under : length f + u.over ≡ down = sym (u.under ∙ ap (λ x. length x + u.over) same.1) in
          subst (λ d. Answers negative (digits_value 10 digits) up d read) under (subst (λ ds. Answers negative (digits_value 10 ds) up (length f + u.over) read) all (answer up u.over (subst (λ x. IsTail x up u.over) same.2 u.is_tail)))
