-- What is computed of a text is what is read of it.
use Rattle.std.proofs.Common.{◌≡◌, ℕ, suc, zero, ◌+◌, ◌*◌, ◌/◌, ◌^◌, ◌<◌, ◌≤◌, ◌⊎◌, inl, inr, Bool, true, false, List, [], ◌∷◌, ◌++◌, length, get_or, drop, Option, Some, None, pos, refl, sym, ap, subst, ◌∙◌, arith}
use Rattle.std.specs.Prelude.{◌==◌, ◌&&◌, ◌||◌, codes, if◌then◌else◌, nat_lt, nat_le, option_map, unsigned_abs}
use Rattle.std.specs.List.{list_all}
use Rattle.std.specs.Option.{unwrap_or}
use Rattle.std.specs.Str.{bytes_eq}
use Rattle.std.proofs.lemmas.Bool.{cases_eq, cases_lt, true≢false}
use Rattle.std.proofs.lemmas.Bool.Decides.{nat_tests}
use Rattle.std.proofs.lemmas.Slice.Eq.{bytes_eq-Decides}
use Rattle.std.proofs.Math.Nat.{mul-div_cancel, one-le-pow}
use Rattle.std.specs.Char.{digit_value}
use Rattle.std.specs.Str.Parse.{AllDigits, digits_value}
use Rattle.widl_value.specs.declared.number.Number.TheVariants as numbers
use Rattle.widl_value.proofs.NearWords.{nearest_word}
use Rattle.widl_scalar.specs.declared.numerals.Read.{Read}
use Rattle.widl_scalar.specs.declared.numerals.Read.TheVariants as reads
use Rattle.widl_scalar.specs.DecimalScales.{IsScaled}
use Rattle.widl_scalar.specs.NumeralParts.{IsDigitCut, IsFractionCut, IsSignCut, NoDigitFirst}
use Rattle.widl_scalar.specs.NumeralWords.{after_digits, after_fraction, after_sign, exact_of, fraction_of, front_digits, is_minus, is_numeral, powers_by, powers_of, prefix_of, read_by, read_of, read_radix, read_scaled, read_signed, read_unsigned, read_value}
use Rattle.widl_scalar.specs.Numerals.{Answers, IsExponent, IsTail, base_of, signed}
use Rattle.widl_scalar.specs.RadixTexts.{IsPrefixCut, ReadsRadix, ReadsUnsigned}
use Rattle.widl_scalar.proofs.NumeralCuts.{same_sign, sign_found, no_sign}
use Rattle.widl_scalar.proofs.NumeralReads.{same_parts, unsigned_none, unsigned_there}

-- the exact value is the one that is scaled
value_told : (n up down v : ℕ) → IsScaled n up down v → v ≤ 2 ^ 64 → exact_of n up down ≡ Some v
unfolding exact_of
value_told n up down v is most =
    let some : 0 < 10 ^ down = one-le-pow down 10 (omega arith) in
    let whole : n * 10 ^ up / 10 ^ down ≡ v = ap (λ x. x / 10 ^ down) (sym is) ∙ mul-div_cancel v some in
    let same : (n * 10 ^ up / 10 ^ down * 10 ^ down == n * 10 ^ up) ≡ true = (let p : n * 10 ^ up / 10 ^ down * 10 ^ down ≡ n * 10 ^ up = ap (λ x. x * 10 ^ down) whole ∙ is in grind (arith, nat_tests)) in
    let small : nat_le (n * 10 ^ up / 10 ^ down) (2 ^ 64) ≡ true = rw whole (grind (arith, nat_tests)) in
    simp (same, small) (ap Some whole)

none_by : (v n up down : ℕ) → ((k : ℕ) → IsScaled n up down k → 2 ^ 64 < k) → (b s : Bool) → (v * 10 ^ down == n * 10 ^ up) ≡ b → nat_le v (2 ^ 64) ≡ s
    → ◌≡◌ {A = Option ℕ} (if (v * 10 ^ down == n * 10 ^ up) && nat_le v (2 ^ 64) then Some v else None) None
none_by v n up down past true true same small =
    let p : v * 10 ^ down ≡ n * 10 ^ up = grind (arith, nat_tests) in
    let high = past v p in
    absurd (let low : v ≤ 2 ^ 64 = grind (arith, nat_tests) in omega (arith, low, high))
none_by v n up down past true false same small = simp (same, small)
none_by v n up down past false s same small = simp same

value_none : (n up down : ℕ) → ((v : ℕ) → IsScaled n up down v → 2 ^ 64 < v) → exact_of n up down ≡ None
unfolding exact_of
value_none n up down past = none_by (n * 10 ^ up / 10 ^ down) n up down past (n * 10 ^ up / 10 ^ down * 10 ^ down == n * 10 ^ up) (nat_le (n * 10 ^ up / 10 ^ down) (2 ^ 64)) refl refl

size_of : (negative : Bool) (v : ℕ) → unsigned_abs (signed negative v) ≡ v
size_of true zero = refl
size_of true (suc v) = refl
size_of false v = refl

-- a numeral's answer is the one that is computed
answer_word : (negative : Bool) (n up down : ℕ) (read : Read) → Answers negative n up down read → read ≡ read_value negative (exact_of n up down)
answer_word negative n up down (reads.Number number) answer =
    let v = answer.0 in
    let most = answer.2 in
    let size = size_of negative v in
    ap reads.Number (nearest_word (signed negative v) number (omega (arith, size, most)) answer.3)
    ∙ ap (read_value negative) (sym (value_told n up down v answer.1 most))
answer_word negative n up down reads.OutOfProfile answer = ap (read_value negative) (sym (value_none n up down answer))

-- digits of a base
numeral_told : (base : ℕ) (text : List ℕ) → 0 < length text → AllDigits base text → is_numeral base text ≡ true
numeral_told base text some are =
    let long : nat_lt 0 (length text) ≡ true = grind (arith, nat_tests) in
    simp (long, all base text are)
  where
    all : (base : ℕ) (text : List ℕ) → AllDigits base text → list_all (λ u. nat_lt (digit_value u) base) text ≡ true
    all base [] are = refl
    all base (u ∷ us) are = let first = are.0 in let low : nat_lt (digit_value u) base ≡ true = grind (arith, nat_tests) in simp (low, all base us are.1)

all_digits : (base : ℕ) (text : List ℕ) → list_all (λ u. nat_lt (digit_value u) base) text ≡ true → AllDigits base text
all_digits base [] is = tt
all_digits base (u ∷ us) is = by (nat_lt (digit_value u) base) refl is (all_digits base us)
  where
    by : (b : Bool) → nat_lt (digit_value u) base ≡ b → (b && list_all (λ v. nat_lt (digit_value v) base) us) ≡ true → (list_all (λ v. nat_lt (digit_value v) base) us ≡ true → AllDigits base us) → AllDigits base (u ∷ us)
    by true low rest further = ((grind (arith, nat_tests)), further rest)
    by false low rest further = absurd (true≢false (sym rest))

numeral_means : (base : ℕ) (text : List ℕ) → is_numeral base text ≡ true → (0 < length text) × AllDigits base text
numeral_means base text is = by (nat_lt 0 (length text)) refl is
  where
    by : (b : Bool) → nat_lt 0 (length text) ≡ b → (b && list_all (λ u. nat_lt (digit_value u) base) text) ≡ true → (0 < length text) × AllDigits base text
    by true long rest = (grind (arith, nat_tests), all_digits base text rest)
    by false long rest = absurd (true≢false (sym rest))

radix_word : (base : ℕ) (digits : List ℕ) (read : Read) → ReadsRadix base digits read → read ≡ read_radix base digits
unfolding read_radix
radix_word base digits read r = by (is_numeral base digits) refl
  where
    by : (b : Bool) → is_numeral base digits ≡ b → read ≡ (if b then read_value false (exact_of (digits_value base digits) 0 0) else reads.Number numbers.NaN)
    by true is = let means = numeral_means base digits is in answer_word false (digits_value base digits) 0 0 read (r.some means.1 means.0)
    by false is = r.none (λ are some. true≢false (sym (numeral_told base digits some are) ∙ is))

-- a run of digits is cut as it is computed
digit_cut : (text : List ℕ) → IsDigitCut text (front_digits text) (after_digits text)
digit_cut [] = record { is = refl; digits = tt; ends = λ some. absurd (omega (arith, some)) }
digit_cut (u ∷ us) = by (nat_lt (digit_value u) 10) refl (digit_cut us)
  where
    by : (b : Bool) → nat_lt (digit_value u) 10 ≡ b → IsDigitCut us (front_digits us) (after_digits us) → IsDigitCut (u ∷ us) (if b then u ∷ front_digits us else []) (if b then after_digits us else u ∷ us)
    by true low rest = record { is = ap (λ t. u ∷ t) rest.is; digits = (grind (arith, nat_tests), rest.digits); ends = rest.ends }
    by false high rest = record { is = refl; digits = tt; ends = λ some. grind (arith, nat_tests) }

fraction_cut : (text : List ℕ) → NoDigitFirst text → IsFractionCut text (fraction_of text) (after_fraction text)
fraction_cut [] none = record { point = []; is_point = inr (refl, refl, λ e. omega (arith, e)); is = refl; digits = tt; ends = none }
fraction_cut (u ∷ us) none = by (u == 46) refl
  where
    by : (b : Bool) → (u == 46) ≡ b → IsFractionCut (u ∷ us) (if b then front_digits us else []) (if b then after_digits us else u ∷ us)
    by true is =
        let point : u ≡ 46 = grind (arith, nat_tests) in
        let rest = digit_cut us in
        record { point = 46 ∷ []; is_point = inl refl; is = ap (λ p. p ∷ us) point ∙ ap (λ t. 46 ∷ t) rest.is; digits = rest.digits; ends = rest.ends }
    by false is = record { point = []; is_point = inr (refl, refl, λ e. (let other : (u == 46) ≡ true = grind (arith, nat_tests) in true≢false (sym other ∙ is))); is = refl; digits = tt; ends = none }

-- and so is a sign
sign_cut : (text : List ℕ) → IsSignCut text (is_minus text) (after_sign text)
sign_cut text = by (get_or text 0 0 == 45) (get_or text 0 0 == 43) refl refl
  where
    by : (m p : Bool) → (get_or text 0 0 == 45) ≡ m → (get_or text 0 0 == 43) ≡ p → IsSignCut text m (if m || p then drop 1 text else text)
    by true p minus plus = record { minus = λ e. (refl, refl); plus = λ e. absurd (let is : get_or text 0 0 ≡ 45 = grind (arith, nat_tests) in omega (arith, is, e)); none = λ not nor. absurd (not (grind (arith, nat_tests))) }
    by false true minus plus = record { minus = λ e. absurd (let is : get_or text 0 0 ≡ 43 = grind (arith, nat_tests) in omega (arith, is, e)); plus = λ e. (refl, refl); none = λ not nor. absurd (nor (grind (arith, nat_tests))) }
    by false false minus plus = record { minus = λ e. absurd (true≢false (sym (told 45 e) ∙ minus)); plus = λ e. absurd (true≢false (sym (told 43 e) ∙ plus)); none = λ not nor. (refl, refl) }
      where
        told : (n : ℕ) → get_or text 0 0 ≡ n → (get_or text 0 0 == n) ≡ true
        told n e = grind (arith, nat_tests)

sign_word : (text rest : List ℕ) (negative : Bool) → IsSignCut text negative rest → (negative ≡ is_minus text) × (rest ≡ after_sign text)
sign_word text rest negative cut = by (cases_eq (get_or text 0 0) 45) (cases_eq (get_or text 0 0) 43)
  where
    own : IsSignCut text (is_minus text) (after_sign text)
    own = sign_cut text

    by : (get_or text 0 0 ≡ 45) ⊎ (get_or text 0 0 ≡ 45 → ⊥) → (get_or text 0 0 ≡ 43) ⊎ (get_or text 0 0 ≡ 43 → ⊥) → (negative ≡ is_minus text) × (rest ≡ after_sign text)
    by (inl is) other = let a = cut.minus is in let b = own.minus is in (a.0 ∙ sym b.0, a.1 ∙ sym b.1)
    by (inr not) (inl is) = let a = cut.plus is in let b = own.plus is in (a.0 ∙ sym b.0, a.1 ∙ sym b.1)
    by (inr not) (inr nor) = let a = cut.none not nor in let b = own.none not nor in (a.0 ∙ sym b.0, a.1 ∙ sym b.1)

-- the end of a numeral means what is computed
marks : (mark : ℕ) → (mark ≡ 101) ⊎ (mark ≡ 69) → (mark == 101 || mark == 69) ≡ true
marks mark (inl is) = rw is refl
marks mark (inr is) = rw is refl

mark_means : (mark : ℕ) → (mark == 101 || mark == 69) ≡ true → (mark ≡ 101) ⊎ (mark ≡ 69)
mark_means mark is = by (cases_eq mark 101) (cases_eq mark 69)
  where
    by : (mark ≡ 101) ⊎ (mark ≡ 101 → ⊥) → (mark ≡ 69) ⊎ (mark ≡ 69 → ⊥) → (mark ≡ 101) ⊎ (mark ≡ 69)
    by (inl small) other = inl small
    by (inr not) (inl great) = inr great
    by (inr not) (inr nor) = absurd (grind (arith, nat_tests))

powers_told : (mark : ℕ) (rest : List ℕ) → (mark == 101 || mark == 69) ≡ true → is_numeral 10 (after_sign rest) ≡ true → powers_of (mark ∷ rest) ≡ Some (powers_by (is_minus rest) (digits_value 10 (after_sign rest)))
powers_told mark rest marked numeral = simp (marked, numeral)

exponent_word : (text : List ℕ) (up over : ℕ) → IsExponent text up over → powers_of text ≡ Some (up, over)
exponent_word text up over e =
    ap powers_of e.is ∙ powers_told e.mark (e.sign ++ e.digits) (marks e.mark e.is_mark) (subst (λ t. is_numeral 10 t ≡ true) cut.1 (numeral_told 10 e.digits e.some e.are_digits))
    ∙ ap (λ b. Some (powers_by b (digits_value 10 (after_sign (e.sign ++ e.digits))))) (sym cut.0) ∙ ap (λ t. Some (powers_by e.negative (digits_value 10 t))) (sym cut.1) ∙ by e.negative refl
  where
    cut : (e.negative ≡ is_minus (e.sign ++ e.digits)) × (e.digits ≡ after_sign (e.sign ++ e.digits))
    cut = let head = no_sign e.digits e.some e.are_digits in same_sign (e.sign ++ e.digits) (after_sign (e.sign ++ e.digits)) (is_minus (e.sign ++ e.digits)) (sign_cut (e.sign ++ e.digits)) e.negative e.sign e.digits e.is_sign refl head.0 head.1

    by : (b : Bool) → e.negative ≡ b → ◌≡◌ {A = Option (ℕ × ℕ)} (Some (powers_by e.negative (digits_value 10 e.digits))) (Some (up, over))
    by true b = let o = e.overs b in ap (λ x. Some (powers_by x (digits_value 10 e.digits))) b ∙ ap (λ n. Some (0, n)) (sym o.1) ∙ ap (λ n. Some (n, over)) (sym o.0)
    by false b = let u = e.ups b in ap (λ x. Some (powers_by x (digits_value 10 e.digits))) b ∙ ap (λ n. Some (n, 0)) (sym u.0) ∙ ap (λ n. Some (up, n)) (sym u.1)

tail_word : (text : List ℕ) (up over : ℕ) → IsTail text up over → powers_of text ≡ Some (up, over)
tail_word text up over (inl e) = exponent_word text up over e
tail_word text up over (inr none) = ap powers_of none.0 ∙ ap (λ n. Some (n, 0)) (sym none.1) ∙ ap (λ n. Some (up, n)) (sym none.2)

same_pair : (a p : ℕ × ℕ) → ◌≡◌ {A = Option (ℕ × ℕ)} (Some a) (Some p) → a ≡ p
same_pair a p is = ap (λ o. unwrap_or o a) is

tail_means : (text : List ℕ) (p : ℕ × ℕ) → powers_of text ≡ Some p → IsTail text p.0 p.1
tail_means [] p is = let same = same_pair (0, 0) p is in inr (refl, sym (ap (λ (q : ℕ × ℕ). q.0) same), sym (ap (λ (q : ℕ × ℕ). q.1) same))
tail_means (mark ∷ rest) p is = by (mark == 101 || mark == 69) (is_numeral 10 (after_sign rest)) refl refl is
  where
    by : (m n : Bool) → (mark == 101 || mark == 69) ≡ m → is_numeral 10 (after_sign rest) ≡ n → ◌≡◌ {A = Option (ℕ × ℕ)} (if m && n then Some (powers_by (is_minus rest) (digits_value 10 (after_sign rest))) else None) (Some p) → IsTail (mark ∷ rest) p.0 p.1
    by true true marked numeral told =
        let found = sign_found rest (after_sign rest) (is_minus rest) (sign_cut rest) in
        let means = numeral_means 10 (after_sign rest) numeral in
        let pair = same_pair (powers_by (is_minus rest) (digits_value 10 (after_sign rest))) p told in
        inl (record {
          negative = is_minus rest;
          mark = mark;
          is_mark = mark_means mark marked;
          sign = found.0;
          is_sign = found.1;
          digits = after_sign rest;
          are_digits = means.1;
          some = means.0;
          is = ap (λ t. mark ∷ t) found.2;
          ups = λ f. (let same = ap (λ b. powers_by b (digits_value 10 (after_sign rest))) (sym f) ∙ pair in (sym (ap (λ (q : ℕ × ℕ). q.0) same), sym (ap (λ (q : ℕ × ℕ). q.1) same)));
          overs = λ f. (let same = ap (λ b. powers_by b (digits_value 10 (after_sign rest))) (sym f) ∙ pair in (sym (ap (λ (q : ℕ × ℕ). q.0) same), sym (ap (λ (q : ℕ × ℕ). q.1) same)));
        })
    by true false marked numeral told = absurd (cc)
    by false n marked numeral told = absurd (cc)

-- a decimal numeral is read as it is computed
digits_some : (m n : ℕ) → (m + n == 0) ≡ false → (0 < m) ⊎ (0 < n)
digits_some m n some = by (cases_lt 0 m) (cases_lt 0 n)
  where
    by : (0 < m) ⊎ (m ≤ 0) → (0 < n) ⊎ (n ≤ 0) → (0 < m) ⊎ (0 < n)
    by (inl long) other = inl long
    by (inr none) (inl long) = inr long
    by (inr none) (inr nor) = absurd (let sum : (m + n == 0) ≡ true = grind (arith, nat_tests) in true≢false (sym sum ∙ some))

module _ (negative : Bool) (text w back f t : List ℕ) (read : Read) (cut : IsDigitCut text w back) (part : IsFractionCut back f t) (r : ReadsUnsigned negative text read) where
  scaled_word : (o : Option (ℕ × ℕ)) → powers_of t ≡ o → (b : Bool) → (length w + length f == 0) ≡ b → read ≡ read_scaled negative w f o
  scaled_word None told b count = r.none (λ digits up down u.
      let same = same_parts text w back f t cut part digits up down u in
      let means = tail_word t up u.over (subst (λ x. IsTail x up u.over) same.2 u.is_tail) in
      absurd (cc))
  scaled_word (Some p) told true count =
      let sum : length w + length f ≡ 0 = grind (arith, nat_tests) in
      r.none (λ digits up down u. unsigned_none text w back f t cut part (omega (arith, sum)) (omega (arith, sum)) digits up down u) ∙ sym (simp count)
  scaled_word (Some p) told false count =
      answer_word negative (digits_value 10 (w ++ f)) p.0 (length f + p.1) read
      (r.some (w ++ f) p.0 (length f + p.1) (unsigned_there text w back f t cut part (digits_some (length w) (length f) count) p.0 p.1 (tail_means t p told))) ∙ sym (simp count)

unsigned_word : (negative : Bool) (text : List ℕ) (read : Read) → ReadsUnsigned negative text read → read ≡ read_unsigned negative text
unfolding read_unsigned
unsigned_word negative text read r =
    let cut = digit_cut text in
    scaled_word negative text (front_digits text) (after_digits text) (fraction_of (after_digits text)) (after_fraction (after_digits text)) read cut (fraction_cut (after_digits text) cut.ends) r
    (powers_of (after_fraction (after_digits text))) refl (length (front_digits text) + length (fraction_of (after_digits text)) == 0) refl

-- a prefix is found as it is computed
prefix_word : (text rest : List ℕ) (base : ℕ) → IsPrefixCut text base rest → prefix_of text ≡ Some (base, rest)
prefix_word text rest base p = ap prefix_of p.is ∙ ap (λ o. option_map (λ b. (b, rest)) o) p.is_letter

prefix_none : (text : List ℕ) → ((base : ℕ) (rest : List ℕ) → IsPrefixCut text base rest → ⊥) → prefix_of text ≡ None
prefix_none [] none = refl
prefix_none (first ∷ []) none = refl
prefix_none (first ∷ (letter ∷ rest)) none = by (first == 48) refl (base_of letter) refl
  where
    by : (b : Bool) → (first == 48) ≡ b → (o : Option ℕ) → base_of letter ≡ o → ◌≡◌ {A = Option (ℕ × List ℕ)} (if b then option_map (λ base. (base, rest)) o else None) None
    by true is (Some base) base_is = let zero_digit : first ≡ 48 = grind (arith, nat_tests) in absurd (none base rest (record { letter = letter; is_letter = base_is; is = ap (λ u. u ∷ (letter ∷ rest)) zero_digit }))
    by true is None base_is = refl
    by false is o base_is = refl

pub prefix_read : (text rest : List ℕ) (base : ℕ) (read : Read) → IsPrefixCut text base rest → ReadsRadix base rest read → read ≡ read_of text
unfolding read_of
prefix_read [] rest base read p r = absurd (let e = p.is in cc)
prefix_read (u ∷ us) rest base read p r = radix_word base rest read r ∙ ap (λ o. read_by o (u ∷ us)) (sym (prefix_word (u ∷ us) rest base p))

signed_here : (text rest : List ℕ) (negative : Bool) → 0 < length text → IsSignCut text negative rest → ((base : ℕ) (back : List ℕ) → IsPrefixCut text base back → ⊥) → read_signed negative rest ≡ read_of text
unfolding read_of
signed_here [] rest negative some cut none = absurd (omega (arith, some))
signed_here (u ∷ us) rest negative some cut none =
    let same = sign_word (u ∷ us) rest negative cut in
    ap (λ b. read_signed b rest) same.0 ∙ ap (λ t. read_signed (is_minus (u ∷ us)) t) same.1 ∙ ap (λ o. read_by o (u ∷ us)) (sym (prefix_none (u ∷ us) none))

pub infinite_read : (text rest : List ℕ) (negative : Bool) → 0 < length text → IsSignCut text negative rest → ((base : ℕ) (back : List ℕ) → IsPrefixCut text base back → ⊥)
    → rest ≡ codes "Infinity" → (read : Read) → read ≡ reads.Number (if negative then numbers.NegInf else numbers.PosInf) → read ≡ read_of text
infinite_read text rest negative some cut none is read answer =
    let word : bytes_eq rest (codes "Infinity") ≡ true = (bytes_eq-Decides rest (codes "Infinity")).1 is in
    answer ∙ sym (simp word) ∙ signed_here text rest negative some cut none

pub decimal_read : (text rest : List ℕ) (negative : Bool) → 0 < length text → IsSignCut text negative rest → ((base : ℕ) (back : List ℕ) → IsPrefixCut text base back → ⊥)
    → bytes_eq rest (codes "Infinity") ≡ false → (read : Read) → ReadsUnsigned negative rest read → read ≡ read_of text
decimal_read text rest negative some cut none other read r =
    unsigned_word negative rest read r ∙ sym (unsigned_here negative rest other) ∙ signed_here text rest negative some cut none
  where
    unsigned_here : (negative : Bool) (rest : List ℕ) → bytes_eq rest (codes "Infinity") ≡ false → read_signed negative rest ≡ read_unsigned negative rest
    unsigned_here negative rest other = simp other

pub empty_read : (text : List ℕ) → length text ≡ 0 → ◌≡◌ {A = Read} (reads.Number (numbers.Whole (pos 0))) (read_of text)
unfolding read_of
empty_read [] none = refl
empty_read (u ∷ us) none = absurd (omega (arith, none))
