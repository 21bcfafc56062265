use Rattle.std.proofs.Common.{IfOk, subst, ◌+◌, ◌≤◌, arith, sym}
use Rattle.widl_script_tree.specs.Tables.{Tables}
use Rattle.widl_script_reader.specs.ReadExpressions.{IsNamed}
use Rattle.widl_script_words.proofs.Parts.{in_both}
use Rattle.widl_script_reader.proofs.Growing.{named_is}
use Rattle.widl_script_tree.specs.Rows.{most_nodes}
use Rattle.widl_script_reader.specs.Room.{entries}
use Rattle.widl_script_reader.proofs.Room.{puts_at_most, each_fits, name_entries}
use Rattle.widl_script_reader.proofs.nodes.Nodes.name.Goals as goal

pub returns-clause-named : goal.returns-clause-named
returns-clause-named c =
    let Named : Tables → Type 0 = λ t. IfOk c.put_name.result (λ number. IsNamed c.args.text number t c.put_name.new.self) in
    subst Named c.self.view_is (in_both c.put_name.result _ _ _ (λ number held new. named_is _ number _ _ held new) c.put_name.ensures.number c.put_name.ensures.tables)

pub put_name-requires : goal.put_name-requires
put_name-requires c =
    let fits = (each_fits _ (1) (subst (λ (t : Tables). entries t + 1 ≤ most_nodes) (sym c.self.view_is) c.requires.room)).4 in
    omega (arith, fits)

pub returns-clause-one : goal.returns-clause-one
returns-clause-one c = subst (λ (t : Tables). entries c.put_name.new.self ≤ entries t + 1) c.self.view_is (puts_at_most c.put_name.result (1) _ _ _ (name_entries _ _) c.put_name.ensures.tables c.put_name.ensures.err)
