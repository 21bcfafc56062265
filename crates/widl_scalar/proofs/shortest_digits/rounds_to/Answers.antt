use Rattle.std.proofs.Common.{arith}
use Rattle.std.proofs.lemmas.Bool.Decides.{nat_tests}
use Rattle.widl_value.proofs.NearUnique.{near_unique}
use Rattle.widl_scalar.proofs.shortest_digits.rounds_to.Goals as goal

pub returns-clause-no : goal.returns-clause-no
returns-clause-no c e n = let same = near_unique _ _ _ c.near.ensures.near n in grind (arith, nat_tests)
