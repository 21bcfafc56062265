use Rattle.std.proofs.Common.{IfOk, subst, sym, ◌+◌, ◌≤◌, arith, length}
use Rattle.widl_script_tree.specs.Tables.{Tables}
use Rattle.widl_script_reader.specs.StatementPuts.{AllStatements, IsStatementRow}
use Rattle.widl_script_words.proofs.Parts.{in_three}
use Rattle.widl_script_reader.proofs.Putting.{statement_row}
use Rattle.std.specs.Prelude.{OnOk, OnErr}
use Rattle.widl_script_tree.specs.Rows.{most_nodes}
use Rattle.widl_script_reader.specs.Room.{entries}
use Rattle.widl_script_reader.proofs.Room.{items_put, nothing_put, each_fits}
use Rattle.widl_script_reader.proofs.nodes.Nodes.put_statements.Goals as goal

pub returns-clause-row : goal.returns-clause-row
returns-clause-row c =
    let Put : Tables → Type 0 = λ t. IfOk c.put_statement_row.result (λ row. IsStatementRow row c.args.places.now t c.put_statement_row.new.self) in
    let Within : Tables → Type 0 = λ t. AllStatements t c.args.places.now in
    let within = subst Within (sym c.self.view_is) c.requires.lower in
    subst Put c.self.view_is (in_three c.put_statement_row.result _ _ _ _ (λ row first count is. statement_row _ _ _ row.first row.count within first count is) c.put_statement_row.ensures.first c.put_statement_row.ensures.count c.put_statement_row.ensures.tables)

pub put_statement_row-requires-clause-room : goal.put_statement_row-requires-clause-room
put_statement_row-requires-clause-room c =
    let fits = (each_fits _ (length c.args.places.now) (subst (λ (t : Tables). entries t + length c.args.places.now ≤ most_nodes) (sym c.self.view_is) c.requires.room)).1 in
    omega (arith, fits)

pub returns-clause-each : goal.returns-clause-each
returns-clause-each c =
    let More : Tables → Type 0 = λ t. OnOk c.put_statement_row.result (entries c.put_statement_row.new.self ≤ entries t + length c.args.places.now) in
    subst More c.self.view_is (items_put c.put_statement_row.result _ _ c.args.places.now c.put_statement_row.ensures.tables)

pub returns-clause-none : goal.returns-clause-none
returns-clause-none c =
    let Same : Tables → Type 0 = λ t. OnErr c.put_statement_row.result (entries c.put_statement_row.new.self ≤ entries t) in
    subst Same c.self.view_is (nothing_put c.put_statement_row.result _ _ c.put_statement_row.ensures.err)
