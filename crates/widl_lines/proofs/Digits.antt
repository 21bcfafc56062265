-- Four hexadecimal digits.
use Rattle.std.proofs.Common.{◌≡◌, ℕ, ◌+◌, ◌-◌, ◌*◌, ◌/◌, ◌%◌, ◌<◌, Bool, true, false, List, [], ◌∷◌, None, refl, sym, ◌∙◌, ap, arith, nat_lt, ltb-false}
use Rattle.std.specs.Prelude.{◌&&◌, cond}
use Rattle.std.specs.Char.{is_ascii_hexdigit}
use Rattle.std.specs.Char.Escape.{encode_utf16}
use Rattle.std.specs.Str.{chars}
use Rattle.std.specs.Str.Parse.{digits_value}
use Rattle.widl_lines.specs.Spelled.{Digit, NoDigit, Spells}
use Rattle.widl_lines.specs.Texts.{then_units, units_of_characters, units_of_digits}

and_false : (a : Bool) → (a && false) ≡ false
and_false true = refl
and_false false = refl

fourth_false : (a b c d : Bool) → d ≡ false → (a && (b && (c && (d && true)))) ≡ false
fourth_false a b c d is = ap (λ e. a && (b && (c && (e && true)))) is ∙ ap (λ e. a && (b && e)) (and_false c) ∙ ap (λ e. a && e) (and_false b) ∙ and_false a

fourth_missing : (a b c : ℕ) (rest : List ℕ) → NoDigit rest → units_of_digits (a ∷ b ∷ c ∷ rest) ≡ None
fourth_missing a b c [] none = refl
fourth_missing a b c (d ∷ rest) none =
    ap (λ e. cond e (then_units (digits_value 16 (a ∷ b ∷ c ∷ d ∷ []) ∷ []) (units_of_characters true rest)) None)
    (fourth_false (is_ascii_hexdigit a) (is_ascii_hexdigit b) (is_ascii_hexdigit c) (is_ascii_hexdigit d) none)

three : (t0 t1 t2 t3 : List ℕ) (va vb vc : ℕ) (a : Digit t0 va t1) (b : Digit t1 vb t2) (c : Digit t2 vc t3) → chars t0 ≡ a.0 ∷ b.0 ∷ c.0 ∷ chars t3
three t0 t1 t2 t3 va vb vc a b c = a.1 ∙ ap (λ l. a.0 ∷ l) (b.1 ∙ ap (λ l. b.0 ∷ l) c.1)

pub no_fourth : (t0 t1 t2 t3 : List ℕ) (va vb vc : ℕ) → Digit t0 va t1 → Digit t1 vb t2 → Digit t2 vc t3 → NoDigit (chars t3) → units_of_digits (chars t0) ≡ None
no_fourth t0 t1 t2 t3 va vb vc a b c none = ap units_of_digits (three t0 t1 t2 t3 va vb vc a b c) ∙ fourth_missing a.0 b.0 c.0 (chars t3) none

one_unit : (u : ℕ) → u < 0x10000 → (c : Bool) → nat_lt u 0x10000 ≡ c → encode_utf16 u ≡ u ∷ []
one_unit u less true is = ap (λ c. cond c (u ∷ []) ((0xD800 + (u - 0x10000) / 0x400) ∷ (0xDC00 + (u - 0x10000) % 0x400) ∷ [])) is
one_unit u less false is = absurd (omega (arith, less, ltb-false u 0x10000 is))

value_of : (da db dc dd va vb vc vd : ℕ) → va ≡ da → vb ≡ db → vc ≡ dc → vd ≡ dd → (((0 * 16 + da) * 16 + db) * 16 + dc) * 16 + dd ≡ ((va * 16 + vb) * 16 + vc) * 16 + vd
value_of da db dc dd va vb vc vd a b c d = omega (arith, a, b, c, d)

all_true : (a b c d : Bool) → a ≡ true → b ≡ true → c ≡ true → d ≡ true → (a && (b && (c && (d && true)))) ≡ true
all_true a b c d ia ib ic id = ap (λ e. e && (b && (c && (d && true)))) ia ∙ ap (λ e. e && (c && (d && true))) ib ∙ ap (λ e. e && (d && true)) ic ∙ ap (λ e. e && true) id

pub four : (t0 t1 t2 t3 t4 : List ℕ) (va vb vc vd : ℕ) → Digit t0 va t1 → Digit t1 vb t2 → Digit t2 vc t3 → Digit t3 vd t4
    → Spells 0x10000 t0 (units_of_digits (chars t0)) true (((va * 16 + vb) * 16 + vc) * 16 + vd) t4
four t0 t1 t2 t3 t4 va vb vc vd a b c d =
    let value = ((va * 16 + vb) * 16 + vc) * 16 + vd in
    let small : value < 0x10000 = omega (arith, a.4, b.4, c.4, d.4) in (
      ap units_of_digits (three t0 t1 t2 t3 va vb vc a b c ∙ ap (λ l. a.0 ∷ b.0 ∷ c.0 ∷ l) d.1)
          ∙ ap (λ e. cond e (then_units (digits_value 16 (a.0 ∷ b.0 ∷ c.0 ∷ d.0 ∷ []) ∷ []) (units_of_characters true (chars t4))) None)
          (all_true (is_ascii_hexdigit a.0) (is_ascii_hexdigit b.0) (is_ascii_hexdigit c.0) (is_ascii_hexdigit d.0) a.2 b.2 c.2 d.2)
          ∙ ap (λ u. then_units (u ∷ []) (units_of_characters true (chars t4))) (value_of _ _ _ _ va vb vc vd a.3 b.3 c.3 d.3)
          ∙ ap (λ us. then_units us (units_of_characters true (chars t4))) (sym (one_unit value small (nat_lt value 0x10000) refl)),
      small,
      omega (arith, a.5, b.5, c.5, d.5),
    )
