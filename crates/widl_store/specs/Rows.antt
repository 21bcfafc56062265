-- For proofs alone. The plans of the rows of the code's table.
use Rattle.std.specs.Prelude.{map, option_map}
use Rattle.widl_store.specs.declared.inner.Builtin.TheVariants.{Intrinsic}
use Rattle.widl_store.specs.declared.intrinsics.Cell.{Cell}
use Rattle.widl_store.specs.declared.intrinsics.Cell.TheVariants as cells
use Rattle.widl_store.specs.declared.intrinsics.Row.{Row}
use Rattle.widl_store.specs.declared.intrinsics.RowKind.{RowKind}
use Rattle.widl_store.specs.declared.intrinsics.RowKind.TheVariants as rows
use Rattle.widl_store.specs.declared.property.Prop.{Prop}
use Rattle.widl_store.specs.Inners.{InnerTerm, PlainPart, ArrayPart, BuiltinPart}
use Rattle.widl_store.specs.Objects.{plain_object}
use Rattle.widl_store.specs.Plans.{Plan, method, iterator, tag, number, name}
use Rattle.widl_text.specs.declared.key.Key.{Key}
use Rattle.widl_value.specs.declared.object.Shape.{Shape}
use Rattle.widl_value.specs.declared.object.Shape.TheVariants as shapes

abbrev pub entry_of_cell : Cell → Key × Prop
entry_of_cell (cells.Method text id) = method text.now id
entry_of_cell (cells.Iterator id) = iterator id
entry_of_cell (cells.Tag text) = tag text.now
entry_of_cell (cells.Number n) = number n
entry_of_cell (cells.Name text) = name text.now

abbrev pub shape_of_row : RowKind → Shape
shape_of_row rows.Plain = shapes.Plain
shape_of_row rows.Array = shapes.Plain
shape_of_row (rows.Function n) = shapes.Callable

abbrev pub part_of_row : RowKind → InnerTerm
part_of_row rows.Plain = PlainPart
part_of_row rows.Array = ArrayPart
part_of_row (rows.Function n) = BuiltinPart (Intrinsic n)

abbrev pub plan_of_row : Row → Plan
plan_of_row row = record { proto = option_map plain_object row.proto; shape = shape_of_row row.kind; inner = part_of_row row.kind; entries = map entry_of_cell row.cells.now }
