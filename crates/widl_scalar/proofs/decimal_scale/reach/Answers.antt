use Rattle.widl_scalar.proofs.TenScales.{shift_down, shift_up}
use Rattle.widl_scalar.proofs.decimal_scale.reach.Goals as goal

pub returns-then-exponent : goal.returns-then-exponent
returns-then-exponent c up over means = shift_down _ _ _ _ up over c.if-exponent.true c.requires.zeros means

pub returns-else-exponent : goal.returns-else-exponent
returns-else-exponent c up over means = shift_up _ _ _ _ up over c.if-exponent.false c.requires.tens means
