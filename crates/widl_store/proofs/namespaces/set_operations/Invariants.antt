use Rattle.std.proofs.Common.{◌≡◌, ◌+◌, map, drop}
use Rattle.widl_idl.specs.DefinitionTerms.{op_name_term}
use Rattle.widl_store.specs.Effects.{with_props}
use Rattle.widl_store.specs.Plans.{with_entries}
use Rattle.widl_store.specs.Realm.{operations_from}
use Rattle.widl_store.proofs.namespaces.set_operations.Given as goal

abbrev pub invariant-loop-op : goal.invariant-loop-op
invariant-loop-op l = (l.object ≡ with_props l.fn.object l.object.props) × (with_entries l.object.props (operations_from (l.last + 1) (map op_name_term (drop l.op-index l.ops))) ≡ with_entries l.fn.object.props (operations_from (l.fn.id + 1) (map op_name_term l.ops))) × (l.last ≡ l.fn.id + l.op-index)
