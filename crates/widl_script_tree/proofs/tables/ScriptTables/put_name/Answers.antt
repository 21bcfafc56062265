use Rattle.std.proofs.Common.{ℕ, ◌<◌, List, get_or, length, subst, sym}
use Rattle.widl_script_tree.specs.Rows.{most_nodes}
use Rattle.widl_script_tree.specs.Tables.{Tables}
use Rattle.widl_script_tree.specs.Parts.{IsWhole}
use Rattle.widl_script_tree.specs.Made.{tables_of}
use Rattle.widl_script_tree.proofs.Wholes.{whole_with_name}
use Rattle.widl_script_tree.proofs.tables.ScriptTables.put_name.Goals as goal

pub invariant_of-self-2 : goal.invariant_of-self-2
invariant_of-self-2 c =
    let old : Tables = tables_of c.self.inside in
    let fits = subst (λ (text : List ℕ). (place : ℕ) → get_or text place 0 < 65536) c.as_slice.ensures c.units_fit.ensures in
    let room = subst (λ (t : Tables). length t.names < most_nodes) (sym c.self.view_is) c.requires.room in
    record {
      whole = subst (λ (names : List (List ℕ)). IsWhole (record old { names = names })) (sym c.in_ok-number.ensures.keys) (whole_with_name old c.self.invariant.whole c.args.text fits room);
      expression = c.self.invariant.expression;
      statement = c.self.invariant.statement;
      function = c.self.invariant.function;
      name = c.self.invariant.name;
    }
