use Rattle.std.proofs.Common.{subst}
use Rattle.widl_script_tree.specs.Parts.{IsWhole}
use Rattle.widl_script_tree.proofs.Growing.{statement_opens}
use Rattle.widl_script_tree.proofs.laws.statements_open.Goals as goal

pub returns : goal.returns
returns c = statement_opens c.args.script.now (subst IsWhole c.tables.ensures c.is_whole.ensures)
