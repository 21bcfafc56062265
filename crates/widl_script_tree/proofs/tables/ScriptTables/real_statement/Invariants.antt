use Rattle.std.proofs.Common.{◌≡◌}
use Rattle.widl_script_tree.specs.Tables.{statement_tree, opened_statement}
use Rattle.widl_script_tree.specs.Parts.{IsLowerItem}
use Rattle.widl_script_tree.proofs.tables.ScriptTables.real_statement.Given as goal

abbrev pub invariant-through : goal.invariant-through
invariant-through l = record {
  lower : IsLowerItem l.at l.node;
  opens : statement_tree l.self l.at ≡ opened_statement l.self (statement_tree l.self) l.node;
  same : statement_tree l.self l.at ≡ statement_tree l.self l.fn.place;
}

abbrev pub decreases-through : goal.decreases-through
decreases-through l = l.at
