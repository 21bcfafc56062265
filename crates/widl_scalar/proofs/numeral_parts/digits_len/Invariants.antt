use Rattle.std.proofs.Common.{take}
use Rattle.std.specs.Str.Parse.{AllDigits}
use Rattle.widl_scalar.proofs.numeral_parts.digits_len.Given as goal

abbrev pub invariant-loop-place : goal.invariant-loop-place
invariant-loop-place l = AllDigits 10 (take l.place l.text)
