use Rattle.std.proofs.Common.{arith}
use Rattle.widl_scalar.proofs.DecimalMultiples.{tenth_next, tens_of}
use Rattle.widl_scalar.proofs.shortest_digits.ten_step.Goals as goal

pub loop-step-preserved : goal.loop-step-preserved
loop-step-preserved c = tenth_next _ _ _ c.loop-step.invariant c.requires.small c.requires.ten (let t = c.loop-step-test.true in omega (arith, t))

pub returns-clause-tens : goal.returns-clause-tens
returns-clause-tens c n is = tens_of _ _ _ n c.loop-step.invariant (let t = c.loop-step-test.false in omega (arith, t)) is
