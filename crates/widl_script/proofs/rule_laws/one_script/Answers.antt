use Rattle.widl_script.proofs.OneOutcome.{one_tree}
use Rattle.widl_script.proofs.rule_laws.one_script.Goals as goal

pub returns : goal.returns
returns c = one_tree c.one_script.ensures
