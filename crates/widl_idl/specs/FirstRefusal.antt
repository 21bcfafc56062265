-- The first refusal by a list of rules, over any type of rules with their numbers.
use Rattle.std.specs.Prelude.{◌≡◌, ◌⊎◌, ℕ, ◌<◌, List, Contains, Bool, ◌&&◌, ◌||◌, nat_lt, nat_eq, Option, None, Some}
use Rattle.widl_first.specs.First as first
use Rattle.widl_idl.specs.declared.refusal.Refusal.{Refusal}
use Rattle.widl_idl.specs.declared.violation.Violation.{Violation}
use Rattle.widl_idl.specs.First.{Before, OtherBefore, SamePlace, is_before, is_other_before, is_same_place}

-- r is by a rule with a lower number, or by one of the same number and speaks of a earlier other place
abbrev pub LowerBefore : Refusal → Refusal → Type 0
LowerBefore r s = (r.rule < s.rule) ⊎ ((r.rule ≡ s.rule) × OtherBefore r.other s.other)

abbrev pub is_lower : Refusal → Refusal → Bool
is_lower r s = nat_lt r.rule s.rule || (nat_eq r.rule s.rule && is_other_before r.other s.other)

-- r is at a place before that of s, or at the same place by a rule with a lower number, or by that rule with a earlier other place
abbrev pub Earlier : Refusal → Refusal → Type 0
Earlier r s = Before r.at s.at ⊎ (SamePlace r.at s.at × LowerBefore r s)

-- the same as a test
abbrev pub is_earlier : Refusal → Refusal → Bool
is_earlier r s = is_before r.at s.at || (is_same_place r.at s.at && is_lower r s)

-- the refusal by the rule of this number, which is broken at the violation
abbrev pub refusal_at : ℕ → Violation → Refusal
refusal_at number s = record { rule = number; at = s.at; other = s.other }

-- the violation of a refusal
abbrev pub violation_of : Refusal → Violation
violation_of r = record { at = r.at; other = r.other }

-- the earlier of what was found before and of this rule's violation
abbrev pub join : ℕ → Option Violation → Option Refusal → Option Refusal
join number None best = best
join number (Some s) best = first.first_of is_earlier best (Some (refusal_at number s))

-- one of the rules is broken as the refusal says
pub record Broken {R : Type 0} (number : R → ℕ) (Breaks : R → Violation → Type 0) (rules : List R) (r : Refusal) : Type 0 where
  pub which : R
  pub listed : Contains rules which
  pub numbered : number which ≡ r.rule
  pub breaks : Breaks which (violation_of r)

-- the first refusal by these rules, or none where none of them is broken
abbrev pub FirstBroken : {R : Type 0} → (number : R → ℕ) → (Breaks : R → Violation → Type 0) → List R → Option Refusal → Type 0
FirstBroken number Breaks rules found = first.FirstWhere Earlier (Broken number Breaks rules) found

-- the refusal of the first phase that has one
abbrev pub first_of : Option Refusal → Option Refusal → Option Refusal
first_of None second = second
first_of (Some first) second = Some first
