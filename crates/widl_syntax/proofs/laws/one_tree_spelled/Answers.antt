use Rattle.widl_syntax.proofs.Unique.{each_has_one}
use Rattle.widl_syntax.proofs.laws.one_tree_spelled.Goals as goal

pub returns : goal.returns
returns c = each_has_one
