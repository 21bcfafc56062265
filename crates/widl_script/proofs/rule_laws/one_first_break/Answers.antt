use Rattle.widl_script.proofs.OneOutcome.{one_break}
use Rattle.widl_script.proofs.rule_laws.one_first_break.Goals as goal

pub returns : goal.returns
returns c = one_break c.one_first_break.ensures c.unbroken_has_no_first_break.ensures
