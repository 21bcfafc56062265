use Rattle.std.proofs.Common.{IfOk, subst, ◌+◌, ◌≤◌, arith, sym}
use Rattle.widl_script_tree.specs.Tables.{Tables}
use Rattle.widl_script_reader.specs.StatementPuts.{IsFunctionPut}
use Rattle.widl_script_words.proofs.Parts.{in_both}
use Rattle.widl_script_reader.proofs.Putting.{function_put}
use Rattle.widl_script_tree.specs.Rows.{most_nodes}
use Rattle.widl_script_reader.specs.Room.{entries}
use Rattle.widl_script_reader.proofs.Room.{puts_at_most, each_fits, function_entries}
use Rattle.widl_script_reader.proofs.nodes.Nodes.put_function.Goals as goal

pub returns-clause-put : goal.returns-clause-put
returns-clause-put c =
    let Put : Tables → Type 0 = λ t. IfOk c.put_function.result (λ number. IsFunctionPut c.args.function number t c.put_function.new.self) in
    subst Put c.self.view_is (in_both c.put_function.result _ _ _ (λ number at is. function_put c.args.function number _ _ at is) c.put_function.ensures.number c.put_function.ensures.tables)

pub put_function-requires-clause-room : goal.put_function-requires-clause-room
put_function-requires-clause-room c =
    let fits = (each_fits _ (1) (subst (λ (t : Tables). entries t + 1 ≤ most_nodes) (sym c.self.view_is) c.requires.room)).2 in
    omega (arith, fits)

pub returns-clause-one : goal.returns-clause-one
returns-clause-one c = subst (λ (t : Tables). entries c.put_function.new.self ≤ entries t + 1) c.self.view_is (puts_at_most c.put_function.result (1) _ _ _ (function_entries _ _) c.put_function.ensures.tables c.put_function.ensures.err)
