use Rattle.std.proofs.Common.{◌≡◌}
use Rattle.widl_script_tree.specs.Tables.{expression_tree, opened}
use Rattle.widl_script_tree.specs.Parts.{IsLower}
use Rattle.widl_script_tree.proofs.script.Script.expression.Given as goal

abbrev pub invariant-through : goal.invariant-through
invariant-through l = record {
  lower : IsLower l.self l.at l.node;
  opens : expression_tree l.self l.at ≡ opened l.self (expression_tree l.self) l.node;
  same : expression_tree l.self l.at ≡ expression_tree l.self l.fn.place;
}

abbrev pub decreases-through : goal.decreases-through
decreases-through l = l.at
