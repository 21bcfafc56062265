use Rattle.widl_first.proofs.KeyFirsts as firsts
use Rattle.widl_first.proofs.laws.one_key.Goals as goal

pub returns : goal.returns
returns g c = firsts.one_key g.S.Sorts.key g.S.Sorts.one
