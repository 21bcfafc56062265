use Rattle.widl_tables.proofs.PickLaws.{plain_member, plain_overload}
use Rattle.widl_tables.proofs.laws.only_objects_are_probed.Goals as goal

pub returns : goal.returns
returns c = record { overload = plain_overload; member = plain_member }
