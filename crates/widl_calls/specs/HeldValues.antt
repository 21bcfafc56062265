-- For proofs and contracts alone; no step names these words. The values of an overload's arguments, as far as a suspended call holds them: the one
-- that its lines read.
use Rattle.std.specs.Global.{Box}
use Rattle.std.specs.Prelude.{◌≡◌, ℕ, zero, suc, List, [], ◌∷◌, slice_get, Option, Some, None}
use Rattle.widl_idl.specs.DefinitionTerms.{DefsTerm}
use Rattle.widl_idl.specs.Terms.{TypeTerm}
use Rattle.widl_value.specs.IdlTerms.{IdlTerm, MissingValue, idl_term}
use Rattle.widl_script_tree.specs.declared.steps.Source.{Source}
use Rattle.widl_script_tree.specs.declared.steps.StepLine.{StepLine}
use Rattle.widl_steps.specs.StepLines.{line, lines, return_line}
use Rattle.widl_calls.specs.declared.step_lines.NamedValue.{NamedValue}

-- a value at its place, with nothing before it
abbrev pub at_place : ℕ → IdlTerm → List IdlTerm
at_place zero w = w ∷ []
at_place (suc number) w = MissingValue ∷ at_place number w

abbrev pub held : Option (Box NamedValue) → List IdlTerm
held None = []
held (Some named) = at_place named.value.number (idl_term named.value.value)

-- values that have the same one at a place are alike, or any values without a place
abbrev pub AreAlike : Option ℕ → List IdlTerm → List IdlTerm → Type 0
AreAlike None ws us = Unit {0}
AreAlike (Some number) ws us = slice_get ws number ≡ slice_get us number

-- with alike values a source, a line and lines do the same: of the arguments they read that one alone, or none
abbrev pub ReadBySource : Source → Option ℕ → Type 0
ReadBySource source number = (t : TypeTerm) (ws us : List IdlTerm) → AreAlike number ws us → return_line t ws source ≡ return_line t us source

abbrev pub ReadByLine : StepLine → Option ℕ → Type 0
ReadByLine l number = (t : TypeTerm) (ws us : List IdlTerm) → AreAlike number ws us → line t ws l ≡ line t us l

abbrev pub ReadByLines : List StepLine → Option ℕ → Type 0
ReadByLines ls number = (list : DefsTerm) (t : TypeTerm) (ws us : List IdlTerm) → AreAlike number ws us → lines list t ws ls ≡ lines list t us ls
