use Rattle.std.proofs.Common.{◌≡◌, ◌+◌, ◌^◌, min, take}
use Rattle.std.specs.Str.Parse.{AllDigits, digits_value}
use Rattle.widl_scalar.proofs.numerals.number_in.Given as goal

abbrev pub invariant-loop-unit : goal.invariant-loop-unit
invariant-loop-unit l = record { digits : AllDigits l.base (take l.unit-index l.digits); value : l.number ≡ min (digits_value l.base (take l.unit-index l.digits)) (2 ^ 64 + 1) }
