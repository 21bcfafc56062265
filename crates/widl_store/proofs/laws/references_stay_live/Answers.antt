use Rattle.widl_store.proofs.Living.{live_changed, live_inner, live_more}
use Rattle.widl_store.proofs.laws.references_stay_live.Goals as goal

pub returns-clause-put : goal.returns-clause-put
returns-clause-put c objects id key value = live_changed objects id _

pub returns-clause-defined : goal.returns-clause-defined
returns-clause-defined c objects id key prop = live_changed objects id _

pub returns-clause-deleted : goal.returns-clause-deleted
returns-clause-deleted c objects id key = live_changed objects id _

pub returns-clause-added : goal.returns-clause-added
returns-clause-added c objects inner shape proto p = live_more objects _ p

pub returns-clause-inner : goal.returns-clause-inner
returns-clause-inner c = live_inner
