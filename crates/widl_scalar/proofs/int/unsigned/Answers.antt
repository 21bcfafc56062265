use Rattle.std.proofs.Common.{rules, arith, ◌≡◌, ◌∙◌, pos, ◌*◌, ◌*ℤ◌, to_z, of_z}
use mir.Syntax.{w128}
use mir.Val.{SFits}
use Rattle.std.proofs.lemmas.Int.{ints, to_z-of_z}
use Rattle.widl_scalar.proofs.Remainders.{congruent_rest}
use Rattle.widl_scalar.proofs.int.unsigned.Goals as goal

pub returns-clause-congruent : goal.returns-clause-congruent
returns-clause-congruent c =
    let fits : SFits w128 c.rem_euclid.result = search rules in
    let seen : to_z w128 (of_z w128 c.args.v) ≡ c.args.v = omega (arith, ints) in
    let same : to_z w128 (of_z w128 (pos 2 *ℤ to_z w128 (of_z w128 c.from.result))) ≡ pos (2 * c.args.half) = omega (arith, ints, c.from.ensures) in
    congruent_rest _ _ _ _ _ (omega arith) seen same (to_z-of_z w128 c.rem_euclid.result fits ∙ c.rem_euclid.ensures.value)
