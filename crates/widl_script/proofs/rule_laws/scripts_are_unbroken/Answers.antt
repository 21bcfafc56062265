use Rattle.widl_script.proofs.OneOutcome.{no_break}
use Rattle.widl_script.proofs.rule_laws.scripts_are_unbroken.Goals as goal

pub returns : goal.returns
returns c = no_break c.one_first_break.ensures c.unbroken_has_no_first_break.ensures
