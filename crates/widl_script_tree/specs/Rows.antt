-- Rows of nodes.
use Rattle.std.specs.Prelude.{ℕ, ◌+◌, ◌-◌, min}
use Rattle.widl_script_tree.specs.declared.row.Row.{Row}

-- no table has a node at this place or above
abbrev pub most_nodes : ℕ
most_nodes = 4294967295

abbrev pub no_row : Row
no_row = record { first = 0; count = 0 }

-- the row without its first node
abbrev pub rest_of : Row → Row
rest_of row = record { first = min (row.first + 1) most_nodes; count = row.count - 1 }
