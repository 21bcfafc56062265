use Rattle.std.proofs.Common.{take}
use Rattle.widl_fits.specs.ChoiceValues.{KeepValues}
use Rattle.widl_fits.proofs.choice_values.list_values.Given as goal

abbrev pub invariant-loop-choice : goal.invariant-loop-choice
invariant-loop-choice l = KeepValues l.sets.items (take l.choice-index l.choices)
