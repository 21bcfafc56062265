use Rattle.std.proofs.Common.{arith}
use Rattle.widl_scalar.proofs.TenScales.{stands_digit, stands_zero}
use Rattle.widl_scalar.proofs.decimal_scale.with_digit.Goals as goal

pub returns-then-digit-eq0-clause-stands : goal.returns-then-digit-eq0-clause-stands
returns-then-digit-eq0-clause-stands c n s = stands_zero n _ _ s _ (omega arith)

pub returns-else-digit-eq0-clause-stands : goal.returns-else-digit-eq0-clause-stands
returns-else-digit-eq0-clause-stands c n s = stands_digit n _ _ _ _ s (omega arith) c.requires.digit (omega (arith, c.min.ensures, c.shifted.ensures))
