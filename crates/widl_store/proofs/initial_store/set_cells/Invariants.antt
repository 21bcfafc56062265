use Rattle.std.proofs.Common.{◌≡◌, map, drop}
use Rattle.widl_store.specs.Effects.{with_props}
use Rattle.widl_store.specs.Plans.{with_entries}
use Rattle.widl_store.specs.Rows.{entry_of_cell}
use Rattle.widl_store.proofs.initial_store.set_cells.Given as goal

abbrev pub invariant-loop-cell : goal.invariant-loop-cell
invariant-loop-cell l = (l.object ≡ with_props l.fn.object l.object.props) × (with_entries l.object.props (map entry_of_cell (drop l.cell-index l.cells)) ≡ with_entries l.fn.object.props (map entry_of_cell l.cells))
