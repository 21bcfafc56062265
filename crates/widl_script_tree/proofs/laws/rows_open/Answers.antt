use Rattle.std.proofs.Common.{subst}
use Rattle.widl_script_tree.specs.Parts.{IsWhole}
use Rattle.widl_script_tree.proofs.Rest.{rows_opened}
use Rattle.widl_script_tree.proofs.laws.rows_open.Goals as goal

pub returns : goal.returns
returns c = rows_opened c.args.script.now (subst IsWhole c.tables.ensures c.is_whole.ensures)
