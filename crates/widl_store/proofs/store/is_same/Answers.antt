use Rattle.std.proofs.Common.{◌∙◌}
use Rattle.widl_store.proofs.KeyEquality.{test_at}
use Rattle.widl_store.proofs.store.is_same.Goals as goal

pub returns : goal.returns
returns c = c.eq.ensures ∙ test_at c.args.a.now c.args.b.now
