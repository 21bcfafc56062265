use Rattle.std.proofs.Common.{subst}
use Rattle.widl_script_tree.specs.Parts.{IsWhole}
use Rattle.widl_script_tree.proofs.Growing.{expression_opens}
use Rattle.widl_script_tree.proofs.laws.expressions_open.Goals as goal

pub returns : goal.returns
returns c = expression_opens c.args.script.now (subst IsWhole c.tables.ensures c.is_whole.ensures)
