use Rattle.std.proofs.Common.{IfOk, subst, sym, length, ◌+◌, ◌≤◌, arith}
use Rattle.widl_script_tree.specs.Tables.{Tables}
use Rattle.widl_script_tree.specs.Parts.{IsLowerStatement, IsBodyLower}
use Rattle.widl_script_reader.specs.StatementPuts.{IsStatementPut}
use Rattle.widl_script_words.proofs.Parts.{in_both}
use Rattle.widl_script_reader.proofs.Putting.{statement_put}
use Rattle.widl_script_tree.specs.Rows.{most_nodes}
use Rattle.widl_script_reader.specs.Room.{entries}
use Rattle.widl_script_reader.proofs.Room.{puts_at_most, each_fits, statement_entries}
use Rattle.widl_script_reader.proofs.nodes.Nodes.put_statement.Goals as goal

pub returns-clause-put : goal.returns-clause-put
returns-clause-put c =
    let Put : Tables → Type 0 = λ t. IfOk c.put_statement.result (λ place. IsStatementPut c.args.node place t c.put_statement.new.self) in
    let Low : Tables → Type 0 = λ t. IsLowerStatement t (length t.statements) c.args.node in
    let Body : Tables → Type 0 = λ t. IsBodyLower t (length t.statements) c.args.node in
    let lower = subst Low (sym c.self.view_is) c.requires.lower in
    let body = subst Body (sym c.self.view_is) c.requires.body in
    subst Put c.self.view_is (in_both c.put_statement.result _ _ _ (λ place at is. statement_put c.args.node place _ _ lower body at is) c.put_statement.ensures.place c.put_statement.ensures.tables)

pub put_statement-requires-clause-room : goal.put_statement-requires-clause-room
put_statement-requires-clause-room c =
    let fits = (each_fits _ (1) (subst (λ (t : Tables). entries t + 1 ≤ most_nodes) (sym c.self.view_is) c.requires.room)).1 in
    omega (arith, fits)

pub returns-clause-one : goal.returns-clause-one
returns-clause-one c = subst (λ (t : Tables). entries c.put_statement.new.self ≤ entries t + 1) c.self.view_is (puts_at_most c.put_statement.result (1) _ _ _ (statement_entries _ _) c.put_statement.ensures.tables c.put_statement.ensures.err)
