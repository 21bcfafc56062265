use Rattle.widl_store.proofs.FirstObjects.{are_few_objects, are_shares_kept, are_within_shares}
use Rattle.widl_store.proofs.laws.first_store_is_bounded.Goals as goal

pub returns-clause-shares : goal.returns-clause-shares
returns-clause-shares c = are_within_shares

pub returns-clause-kept : goal.returns-clause-kept
returns-clause-kept c = are_shares_kept

pub returns-clause-bounded : goal.returns-clause-bounded
returns-clause-bounded c = are_few_objects
