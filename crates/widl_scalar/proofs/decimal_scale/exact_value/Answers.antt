use Rattle.std.proofs.Common.{◌+◌, length, subst, sym}
use Rattle.widl_scalar.specs.DecimalScales.{Scales}
use Rattle.widl_scalar.proofs.TenScales.{stands_start, value_append}
use Rattle.widl_scalar.proofs.decimal_scale.exact_value.Goals as goal

pub returns-clause-scales : goal.returns-clause-scales
returns-clause-scales c up over means =
    let whole = c.with_digits-start.ensures.stands 0 stands_start in
    let both = c.with_digits.ensures.stands _ whole in
    subst (λ n. Scales n up (length c.args.fraction.now + over) c.scaled.result) (sym (value_append 0 c.args.whole.now c.args.fraction.now)) (c.scaled.ensures.scales _ up over both means)
