-- The first refusal by some rules of validity.
use Rattle.std.specs.Prelude.{List, Option, None, Some}
use Rattle.widl_first.specs.First.{first_of}
use Rattle.widl_idl.specs.declared.refusal.Refusal.{Refusal}
use Rattle.widl_idl.specs.declared.violation.Violation.{Violation}
use Rattle.widl_idl.specs.DefinitionTerms.{DefsTerm}
use Rattle.widl_idl.specs.FirstRefusal.{FirstBroken, is_earlier}
use Rattle.widl_idl.specs.PlainTrees.{PlainDefinition}
use Rattle.widl_overload.specs.declared.validity_rule.ValidityRule.{ValidityRule}
use Rattle.widl_overload.specs.rules.Validity.{BreaksRule, validity_number}

-- of what was found now and of what was found before the refusal that comes first
abbrev pub earlier_refusal : Option Refusal → Option Refusal → Option Refusal
earlier_refusal None best = best
earlier_refusal (Some found) best = first_of is_earlier best (Some found)

-- the first refusal by these rules, where they are broken so
abbrev pub IsFirst : (ValidityRule → Violation → Type 0) → List ValidityRule → Option Refusal → Type 0
IsFirst Breaks rules found = FirstBroken validity_number Breaks rules found

-- the first refusal by these rules over these definitions and their merged list
abbrev pub IsFirstOver : DefsTerm → List PlainDefinition → List ValidityRule → Option Refusal → Type 0
IsFirstOver list definitions rules found = IsFirst (BreaksRule list definitions) rules found
