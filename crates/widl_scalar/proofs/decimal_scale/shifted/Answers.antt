use Rattle.std.proofs.Common.{◌^◌, arith, ◌∙◌}
use Rattle.widl_scalar.proofs.TenScales.{above, more}
use Rattle.widl_scalar.proofs.decimal_scale.shifted.Goals as goal

pub returns-then-value-gt-GREATEST : goal.returns-then-value-gt-GREATEST
returns-then-value-gt-GREATEST c =
    let past = above (2 ^ 64) c.loop-left.value c.loop-left.left _ (let t = c.loop-left-test.true in omega (arith, t)) (let t = c.if-value-gt-GREATEST.true in omega (arith, t)) c.loop-left.invariant.0 in
    omega (arith, past)

pub loop-left-preserved : goal.loop-left-preserved
loop-left-preserved c = (more c.loop-left.value c.loop-left.left 0 (let t = c.loop-left-test.true in omega (arith, t)) ∙ c.loop-left.invariant.0, (let t = c.if-value-gt-GREATEST.false in omega (arith, t)))
