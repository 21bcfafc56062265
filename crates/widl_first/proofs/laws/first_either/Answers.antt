use Rattle.widl_first.proofs.KeyFirsts as firsts
use Rattle.widl_first.proofs.laws.first_either.Goals as goal

-- src/laws.rt:20:1
pub returns : goal.returns
returns g c = firsts.first_either g.S.Sorts.key g.S.Sorts.one g.S.Sorts.other
