use Rattle.std.proofs.Common.{◌≡◌, ◌≤◌, ℕ, true, List, bytes_eq, length, take}
use Rattle.std.specs.List.{list_any}
use Rattle.widl_fits.specs.ChoiceValues.{has_text}
use Rattle.widl_fits.proofs.choice_values.values_in.Given as goal

abbrev pub invariant-loop-value : goal.invariant-loop-value
invariant-loop-value l =
    ((text : List ℕ) → has_text l.texts text ≡ list_any (λ v. bytes_eq v text) (take l.value-index l.values))
    × ((text : List ℕ) → list_any (λ v. bytes_eq v text) (take l.value-index l.values) ≡ true → length text ≤ l.longest)
