use Rattle.std.proofs.Common.{IfOk, subst, ◌+◌, ◌≤◌, arith, sym}
use Rattle.widl_script_tree.specs.Tables.{Tables}
use Rattle.widl_script_reader.specs.StatementPuts.{IsBlockPut}
use Rattle.widl_script_words.proofs.Parts.{in_both}
use Rattle.widl_script_reader.proofs.Putting.{block_put}
use Rattle.widl_script_tree.specs.Rows.{most_nodes}
use Rattle.widl_script_reader.specs.Room.{entries}
use Rattle.widl_script_reader.proofs.Room.{puts_at_most, each_fits, block_entries}
use Rattle.widl_script_reader.proofs.nodes.Nodes.put_steps.Goals as goal

pub returns-clause-put : goal.returns-clause-put
returns-clause-put c =
    let Put : Tables → Type 0 = λ t. IfOk c.put_steps.result (λ number. IsBlockPut c.args.block number t c.put_steps.new.self) in
    subst Put c.self.view_is (in_both c.put_steps.result _ _ _ (λ number at is. block_put c.args.block number _ _ at is) c.put_steps.ensures.number c.put_steps.ensures.tables)

pub put_steps-requires : goal.put_steps-requires
put_steps-requires c =
    let fits = (each_fits _ (1) (subst (λ (t : Tables). entries t + 1 ≤ most_nodes) (sym c.self.view_is) c.requires.room)).3 in
    omega (arith, fits)

pub returns-clause-one : goal.returns-clause-one
returns-clause-one c = subst (λ (t : Tables). entries c.put_steps.new.self ≤ entries t + 1) c.self.view_is (puts_at_most c.put_steps.result (1) _ _ _ (block_entries _ _) c.put_steps.ensures.tables c.put_steps.ensures.err)
