use Rattle.widl_valid.proofs.Valid.{valid_of}
use Rattle.widl_valid.proofs.acceptance.validate.Goals as goal

pub new-requires-clause-valid : goal.new-requires-clause-valid
new-requires-clause-valid c = valid_of c.args.merged _ c.in-None.is c.in_ok-refusal.ensures
