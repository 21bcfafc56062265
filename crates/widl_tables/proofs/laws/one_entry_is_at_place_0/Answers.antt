use Rattle.widl_tables.proofs.FewOverloads.{place_or_0}
use Rattle.widl_tables.proofs.laws.one_entry_is_at_place_0.Goals as goal

pub returns : goal.returns
returns c = place_or_0
