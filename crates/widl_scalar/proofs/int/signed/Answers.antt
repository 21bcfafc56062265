use Rattle.std.proofs.Common.{arith, ◌≡◌, to_z, of_z}
use mir.Syntax.{w128}
use Rattle.std.proofs.lemmas.Int.{ints}
use Rattle.widl_scalar.proofs.Remainders.{congruent_less}
use Rattle.widl_scalar.proofs.int.signed.Goals as goal

pub returns-then-rest-from-clause-congruent : goal.returns-then-rest-from-clause-congruent
returns-then-rest-from-clause-congruent c =
    let seen : to_z w128 (of_z w128 c.args.v) ≡ c.args.v = omega (arith, ints) in
    congruent_less _ _ c.unsigned-rest.result _ _ seen c.unsigned-rest.ensures.congruent (omega (arith, ints))
