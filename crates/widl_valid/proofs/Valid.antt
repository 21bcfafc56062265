-- Where no refusal is found, no rule of validity is broken.
use Rattle.std.proofs.Common.{◌≡◌, ℕ, suc, cond, nat_eq, List, [], ◌∷◌, Contains, Option, None, arith, ltb-true, refl, subst}
use Rattle.widl_idl.specs.declared.refusal.Refusal.{Refusal}
use Rattle.widl_idl.specs.FirstRefusal.{refusal_at}
use Rattle.widl_idl.specs.MergedSets.{MergedSet}
use Rattle.widl_overload.specs.declared.validity_rule.ValidityRule.{ValidityRule}
use Rattle.widl_overload.specs.declared.validity_rule.ValidityRule.TheVariants as rule
use Rattle.widl_overload.specs.rules.Validity.{IsValid, validity_number, validity_rules}
use Rattle.widl_valid.specs.Invalidity.{IsInvalidity}

-- where the rule with this number stands in a list
abbrev place : List ValidityRule → ℕ → ℕ
place [] number = 0
place (x ∷ xs) number = cond (nat_eq (validity_number x) number) 0 (suc (place xs number))

-- each rule is among those that are asked
each_listed : (which : ValidityRule) → Contains validity_rules which
each_listed rule.RepeatedEnumerationValue = (0, omega arith, refl)
each_listed which = (place validity_rules (validity_number which), ltb-true _ _ refl, refl)

pub valid_of : (set : MergedSet) (found : Option Refusal) → found ≡ None → IsInvalidity set found → IsValid set
valid_of set found is none = λ which s breaks. at_none set (subst (IsInvalidity set) is none) which s breaks
  where
    at_none : (set : MergedSet) → IsInvalidity set None → IsValid set
    at_none set none = λ which s breaks. none (refusal_at (validity_number which) s) (record { which = which; listed = each_listed which; numbered = refl; breaks = breaks })
