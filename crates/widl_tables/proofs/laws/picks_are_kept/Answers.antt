use Rattle.widl_tables.proofs.PickLaws.{entry_is_kept, probe_is_kept}
use Rattle.widl_tables.proofs.laws.picks_are_kept.Goals as goal

pub returns : goal.returns
returns c = record { entry = entry_is_kept; probe = probe_is_kept }
