use Rattle.std.proofs.Common.{◌≡◌, ◌≤◌, take}
use Rattle.std.specs.Str.Parse.{AllDigits, digits_value}
use Rattle.widl_text.proofs.index.digits_number.Given as goal

-- the units so far are digits, and this is their number
abbrev pub invariant-loop-unit : goal.invariant-loop-unit
invariant-loop-unit l = record { digits : AllDigits 10 (take l.unit-index l.text); value : l.number ≡ digits_value 10 (take l.unit-index l.text); most : l.number ≤ 4294967294 }
