-- Each literal of the program is what some default value means, so it fits where the tests say so.
use Rattle.std.proofs.Common.{◌≡◌, ◌↔◌, ℕ, ◌+◌, ◌-◌, ◌*◌, ◌/◌, ◌%◌, ◌^◌, ◌<◌, zero, suc, min, Bool, true, false, cond, nat_lt, List, [], ◌∷◌, ◌++◌, get_or, Option, None, Some, arith, refl, sym, ap, ◌∙◌}
use Rattle.std.specs.Prelude.{ℤ, pos, negsuc, neg_ℤ, FitsSigned}
use Rattle.std.specs.Str.{chars}
use Rattle.std.specs.Int.{w128}
use Rattle.std.specs.Char.{digit_value}
use Rattle.std.specs.Char.Escape.{encode_utf16}
use Rattle.std.specs.Str.Parse.{digits_value}
use Rattle.std.proofs.Math.Nat.{min-eq_left}
use Rattle.std.proofs.lemmas.Bool.{ltb-false}
use Rattle.std.proofs.lemmas.Bool.Decides.{nat_tests}
use Rattle.std.proofs.lemmas.Int.Digits.{digits_value_push}
use Rattle.widl_text.specs.IntegerTokens.{integer_of}
use Rattle.widl_text.specs.Utf16.{utf16_of}
use Rattle.widl_idl.specs.declared.literal.Literal.{Literal}
use Rattle.widl_idl.specs.declared.literal.Literal.TheVariants as the
use Rattle.widl_idl.specs.DefinitionTerms.{DefsTerm}
use Rattle.widl_idl.specs.PlainTypes.{PlainValue, NullValue, UndefinedValue, BooleanValue, IntegerValue, DecimalValue, InfinityValue, MinusInfinityValue, NotANumberValue, TextValue, EmptySequenceValue, EmptyDictionaryValue}
use Rattle.widl_idl.specs.Terms.{TypeTerm}
use Rattle.widl_idl.specs.WrittenLiterals.{value_meant}
use Rattle.widl_overload.specs.rules.DefaultRules.{Fits}
use Rattle.widl_fits.specs.declared.tables.Tables.{Tables}
use Rattle.widl_fits.specs.Fitting.{Knows, fits_if, literal_if}
use Rattle.widl_fits.specs.Literals.{IsMeant, IsOfProgram, LiteralFits}
use Rattle.widl_fits.proofs.Fits.{fits_told, nothing_fits}

-- 1. Integers: zeros and digits of base 8

digit_is : (d : ℕ) → d < 8 → digit_value (48 + d) ≡ d
digit_is d below = grind (arith, nat_tests)

octal : (count n : ℕ) → n < 8 ^ count → (ds : List ℕ) × (digits_value 8 ds ≡ n)
octal zero n below = ([], omega (arith, below))
octal (suc count) n below =
    let w = octal count (n / 8) (omega (arith, below)) in (
      w.0 ++ (48 + n % 8) ∷ [],
      digits_value_push 8 w.0 (48 + n % 8) ∙ ap (λ x. x * 8 + digit_value (48 + n % 8)) w.1 ∙ ap (λ x. n / 8 * 8 + x) (digit_is (n % 8) (omega arith)) ∙ omega arith,
    )

positive : (n : ℕ) → n < 2 ^ 127 → (text : List ℕ) × (integer_of text ≡ pos n)
positive n below =
    let w = octal 43 n (omega (arith, below)) in
    (48 ∷ 48 ∷ w.0, ap (λ m. pos (min m (2 ^ 127 - 1))) w.1 ∙ ap pos (min-eq_left (omega (arith, below))))

negative : (n : ℕ) → n < 2 ^ 127 → (text : List ℕ) × (integer_of text ≡ negsuc n)
negative n below =
    let w = octal 43 (suc n) (omega (arith, below)) in
    (45 ∷ 48 ∷ 48 ∷ w.0, ap (λ m. neg_ℤ (pos (min m (2 ^ 127)))) w.1 ∙ ap (λ m. neg_ℤ (pos m)) (min-eq_left (omega (arith, below))))

integer : (n : ℤ) → FitsSigned w128 n → (text : List ℕ) × (integer_of text ≡ n)
integer (pos n) f = positive n (let b = f.sfits in b)
integer (negsuc n) f = negative n (let b = f.sfits in b)

-- 2. Texts: two numbers for each unit, as UTF-8 reads them. Whether a file could hold such a text isn't asked

abbrev bytes_of : List ℕ → List ℕ
bytes_of [] = []
bytes_of (u ∷ units) = 192 ∷ (128 + u) ∷ bytes_of units

bits : (u : ℕ) → 0 * 64 + ((128 + u) - 128) ≡ u
bits u = omega arith

read_again : (units : List ℕ) → chars (bytes_of units) ≡ units
unfolding chars
read_again [] = refl
read_again (u ∷ []) = ap (λ c. c ∷ []) (bits u)
read_again (u ∷ v ∷ units) = λ i. bits u i ∷ read_again (v ∷ units) i

one_unit : (u : ℕ) → u < 65536 → (c : Bool) → nat_lt u 65536 ≡ c → encode_utf16 u ≡ u ∷ []
one_unit u less true is = ap (λ c. cond c (u ∷ []) ((0xD800 + (u - 0x10000) / 0x400) ∷ (0xDC00 + (u - 0x10000) % 0x400) ∷ [])) is
one_unit u less false is = absurd (omega (arith, less, ltb-false u 65536 is))

units_again : (units : List ℕ) → ((place : ℕ) → get_or units place 0 < 65536) → utf16_of units ≡ units
units_again [] fit = refl
units_again (u ∷ units) fit = λ i. one_unit u (fit 0) (nat_lt u 65536) refl i ++ units_again units (λ place. fit (suc place)) i

-- each literal of the program is what a default value means
pub literal_meant : (l : Literal) → IsOfProgram l → IsMeant l
literal_meant the.Null fits = record { written = NullValue; means = refl }
literal_meant the.Undefined fits = record { written = UndefinedValue; means = refl }
literal_meant (the.Bool b) fits = record { written = BooleanValue b; means = refl }
literal_meant (the.Int n) fits = let w = integer n fits in record { written = IntegerValue w.0; means = ap (λ m. Some (the.Int m)) w.1 }
literal_meant (the.Text units) fits = record { written = TextValue (bytes_of units); means = ap (λ us. Some (the.Text us)) (ap utf16_of (read_again units) ∙ units_again units fits) }
literal_meant the.EmptyList fits = record { written = EmptySequenceValue; means = refl }
literal_meant the.EmptyDict fits = record { written = EmptyDictionaryValue; means = refl }

-- 3. What fits

some_is : {A : Type 0} {a b : A} → Some a ≡ Some b → a ≡ b
some_is e = (cc)

value_of_if : (v : PlainValue) (l : Literal) → literal_if v ≡ Some l → value_meant v ≡ l
value_of_if (DecimalValue text) l e = absurd (let f : None ≡ Some l = e in (cc))
value_of_if InfinityValue l e = absurd (let f : None ≡ Some l = e in (cc))
value_of_if MinusInfinityValue l e = absurd (let f : None ≡ Some l = e in (cc))
value_of_if NotANumberValue l e = absurd (let f : None ≡ Some l = e in (cc))
value_of_if v l e = some_is e

module _ (list : DefsTerm) (tables : Tables) (known : Knows list tables) (t : TypeTerm) where
  nothing_there : (v : PlainValue) → literal_if v ≡ None → Fits list t v → ⊥
  nothing_there v none f = let told : fits_if tables (literal_if v) t ≡ true = (fits_told list tables known t v).1 f in absurd (let clash : false ≡ true = sym (ap (λ o. fits_if tables o t) none ∙ nothing_fits tables t) ∙ told in (cc))

  by_value : (v : PlainValue) (l : Literal) → value_meant v ≡ l → Fits list t v → (o : Option Literal) → literal_if v ≡ o → fits_if tables (Some l) t ≡ true
  by_value v l means f None none = absurd (nothing_there v none f)
  by_value v l means f (Some m) is = ap (λ x. fits_if tables (Some x) t) (sym means ∙ value_of_if v m is) ∙ ap (λ o. fits_if tables o t) (sym is) ∙ (fits_told list tables known t v).1 f

  -- a literal fits where the tests say so
  pub literal_told : (l : Literal) → IsOfProgram l → (fits_if tables (Some l) t ≡ true) ↔ LiteralFits list t l
  literal_told l fits = let m = literal_meant l fits in (
    λ h. record { written = m.written; means = value_of_if m.written l m.means; fits = (fits_told list tables known t m.written).0 (ap (λ o. fits_if tables o t) m.means ∙ h) },
    λ f. by_value f.written l f.means f.fits (literal_if f.written) refl,
  )

pub told_by_tests : (tables : Tables) (t : TypeTerm) (l : Literal) (result : Bool) → IsOfProgram l → result ≡ fits_if tables (Some l) t → (list : DefsTerm) → Knows list tables → (result ≡ true) ↔ LiteralFits list t l
told_by_tests tables t l result fits is list known = let told = literal_told list tables known t l fits in (λ h. told.0 (sym is ∙ h), λ f. is ∙ told.1 f)
