use Rattle.std.proofs.Common.{ℕ, ◌+◌, ◌^◌, ◌≤◌, drop}
use Rattle.widl_scalar.specs.DecimalScales.{Stands}
use Rattle.widl_scalar.proofs.TenScales.{Reached}
use Rattle.widl_scalar.proofs.decimal_scale.with_digits.Given as goal

abbrev pub invariant-loop-unit : goal.invariant-loop-unit
invariant-loop-unit l = record {
  kept : l.number.kept ≤ 2 ^ 64 + 1;
  zeros : l.number.zeros ≤ l.fn.start.zeros + l.unit-index;
  stands : (n : ℕ) → Stands n l.fn.start.kept l.fn.start.zeros → Reached n l.digits (drop l.unit-index l.digits) l.number.kept l.number.zeros;
}
