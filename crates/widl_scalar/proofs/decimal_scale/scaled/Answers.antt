use Rattle.std.proofs.Common.{arith}
use Rattle.widl_scalar.proofs.TenScales.{none_below, none_past, some_value}
use Rattle.widl_scalar.proofs.decimal_scale.scaled.Goals as goal

pub returns-then-rise-fall-clause-scales : goal.returns-then-rise-fall-clause-scales
returns-then-rise-fall-clause-scales c n up over stands means = none_below n _ _ stands up _ _ _ (omega arith) (c.reach-rise.ensures up over means) (omega arith)

pub returns-then-value-gt-GREATEST-clause-scales : goal.returns-then-value-gt-GREATEST-clause-scales
returns-then-value-gt-GREATEST-clause-scales c n up over stands means = none_past n _ _ stands up _ _ _ (omega arith) (c.reach-rise.ensures up over means) (omega arith) _ c.shifted-value.ensures (omega arith)

pub returns-else-value-gt-GREATEST-clause-scales : goal.returns-else-value-gt-GREATEST-clause-scales
returns-else-value-gt-GREATEST-clause-scales c n up over stands means = some_value n _ _ stands up _ _ _ (omega arith) (c.reach-rise.ensures up over means) (omega arith) _ c.shifted-value.ensures (omega arith)
