use Rattle.std.proofs.Common.{sym, subst, ◌+◌, ◌≤◌, arith, length}
use Rattle.widl_script_tree.specs.Tables.{Tables}
use Rattle.widl_script_reader.specs.ReadExpressions.{AllWithin}
use Rattle.widl_script_words.proofs.Parts.{in_three}
use Rattle.widl_script_reader.proofs.Growing.{row_is}
use Rattle.widl_script_tree.specs.Rows.{most_nodes}
use Rattle.widl_script_reader.specs.Room.{entries}
use Rattle.widl_script_reader.proofs.Room.{puts_at_most, each_fits, item_entries}
use Rattle.widl_script_reader.proofs.nodes.Nodes.put_row.Goals as goal

pub returns-clause-row : goal.returns-clause-row
returns-clause-row c =
    let Within : Tables → Type 0 = λ t. AllWithin t c.args.places.now in
    let within = subst Within (sym c.self.view_is) c.requires.lower in
    in_three c.put_row.result _ _ _ _ (λ row first count new. row_is _ _ _ row.first row.count within first count new) c.put_row.ensures.first c.put_row.ensures.count c.put_row.ensures.tables

pub put_row-requires-clause-room : goal.put_row-requires-clause-room
put_row-requires-clause-room c =
    let fits = (each_fits _ (length c.args.places.now) (subst (λ (t : Tables). entries t + length c.args.places.now ≤ most_nodes) (sym c.self.view_is) c.requires.room)).0 in
    omega (arith, fits)

pub returns-clause-each : goal.returns-clause-each
returns-clause-each c = subst (λ (t : Tables). entries c.put_row.new.self ≤ entries t + length c.args.places.now) c.self.view_is (puts_at_most c.put_row.result (length c.args.places.now) _ _ _ (item_entries _ _) c.put_row.ensures.tables c.put_row.ensures.err)
