use Rattle.widl_tables.proofs.PickLaws.{probe_is}
use Rattle.widl_tables.proofs.laws.probes_are_of_sequences.Goals as goal

pub returns : goal.returns
returns c = probe_is
