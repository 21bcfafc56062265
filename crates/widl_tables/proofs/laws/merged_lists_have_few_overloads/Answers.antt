use Rattle.widl_tables.proofs.FewOverloads.{few_overloads}
use Rattle.widl_tables.proofs.laws.merged_lists_have_few_overloads.Goals as goal

pub returns : goal.returns
returns c = few_overloads
