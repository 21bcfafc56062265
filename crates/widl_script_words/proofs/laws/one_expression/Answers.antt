use Rattle.widl_script_words.proofs.Unique.{each_expression}
use Rattle.widl_script_words.proofs.laws.one_expression.Goals as goal

pub returns : goal.returns
returns c = each_expression
