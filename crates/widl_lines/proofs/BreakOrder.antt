-- The order of breaks in a line, and that one key is one break.
use Rattle.std.proofs.Common.{◌≡◌, ◌<◌, ◌≤◌, nat_lt, nat_eq, Option, Some, None, refl, sym, ap, arith, ltb-true, eqb-true, inl, inr}
use Rattle.std.proofs.lemmas.Bool.{and_parts, or_cases}
use Rattle.widl_first.specs.Keys.{IsFirst, Precedes}
use Rattle.widl_first.proofs.KeyFirsts.{one_key}
use Rattle.widl_lines.specs.declared.line_break.LineRule.{LineRule}
use Rattle.widl_lines.specs.declared.line_break.LineRule.TheVariants.{NoForm, TooDeep, TooLarge, NoBlock}
use Rattle.widl_lines.specs.declared.line_break.LineBreak.{LineBreak}
use Rattle.widl_lines.specs.Breaks.{number, break_key}

-- no break precedes one at no higher a word, and at the same word of no higher a rule
pub comes_first : (a b : LineBreak) → (b.word < a.word → ⊥) → (a.word ≡ b.word → number a.rule ≤ number b.rule) → Precedes break_key b a → ⊥
comes_first a b none le h = elim (or_cases _ _ h) [
  | inl lower ↦ none (ltb-true b.word a.word lower)
  | inr level ↦ (let at = and_parts (nat_eq b.word a.word) _ level in elim (or_cases (nat_lt (number b.rule) (number a.rule)) _ at.1) [
    | inl lower ↦ omega (arith, ltb-true (number b.rule) (number a.rule) lower, le (sym (eqb-true b.word a.word at.0)))
    | inr past ↦ (let end = (and_parts (nat_eq (number b.rule) (number a.rule)) _ past).1 in cc)
  ])
]

same_rule : (p q : LineRule) → number p ≡ number q → p ≡ q
same_rule NoForm NoForm e = refl
same_rule TooDeep TooDeep e = refl
same_rule TooLarge TooLarge e = refl
same_rule NoBlock NoBlock e = refl
same_rule p q e = absurd (omega arith)

same_break : (a b : LineBreak) → break_key a ≡ break_key b → a ≡ b
same_break a b e = let f : a.word ≡ b.word = cc in let g : number a.rule ≡ number b.rule = cc in let h = same_rule a.rule b.rule g in λ i. record { rule = h i; word = f i }

-- the first break is the only one
pub one_first : (P : LineBreak → Type 0) (a b : Option LineBreak) → IsFirst break_key P a → IsFirst break_key P b → a ≡ b
one_first P None None f g = refl
one_first P None (Some b) f g = absurd (f b g.holds)
one_first P (Some a) None f g = absurd (g a f.holds)
one_first P (Some a) (Some b) f g = ap Some (same_break a b (one_key break_key P a b f g))
