-- The members that a dictionary declares are sorted by their names.
use Rattle.widl_tables.specs.MemberOrder.{by_name}
use Rattle.widl_tables.proofs.NameOrder.{rises, same, sorted}
use Rattle.widl_steps.specs.ContainerLaws.{NamesAscend}

pub names_ascend : NamesAscend
names_ascend members = record { same = same members; ascending = sorted (by_name members) (rises members) }
