use Rattle.widl_store.proofs.OneFunction.{have_one_function, are_named}
use Rattle.widl_store.proofs.laws.operations_have_one_function.Goals as goal

pub returns-clause-one : goal.returns-clause-one
returns-clause-one c = have_one_function

pub returns-clause-named : goal.returns-clause-named
returns-clause-named c = are_named
