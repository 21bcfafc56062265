use Rattle.std.proofs.Common.{◌≡◌, ◌+◌, ◌*◌, ◌≤◌, length}
use Rattle.std.specs.Prelude.{chars, option_map}
use Rattle.widl_lines.specs.Texts.{units_of_characters}
use Rattle.widl_lines.proofs.texts.count_units.Given as goal

abbrev pub invariant-codes : goal.invariant-codes
invariant-codes l = record {
  counted : option_map length (units_of_characters l.fn.escapes (chars l.fn.text)) ≡ option_map (λ units. l.count + length units) (units_of_characters l.fn.escapes (chars l.rest));
  few : l.count + 2 * length l.rest ≤ 2 * length l.fn.text;
}

abbrev pub decreases-codes : goal.decreases-codes
decreases-codes l = length l.rest
