use Rattle.std.proofs.Common.{◌≡◌, length}
use Rattle.std.specs.Prelude.{chars}
use Rattle.widl_lines.specs.Texts.{units_of_characters, then_units}
use Rattle.widl_lines.proofs.texts.read_units.Given as goal

abbrev pub invariant-codes : goal.invariant-codes
invariant-codes l = units_of_characters l.fn.escapes (chars l.fn.text) ≡ then_units l.units (units_of_characters l.fn.escapes (chars l.rest))

abbrev pub decreases-codes : goal.decreases-codes
decreases-codes l = length l.rest
