-- The lines of all that can be called.
use Rattle.std.specs.Prelude.{ℕ, ◌++◌, List, [], slice_get, Option, None, Some}
use Rattle.std.specs.List.{flat_map}
use Rattle.widl_idl.specs.DefinitionTerms.{SigTerm, OpNameTerm, IfaceTerm, SpaceTerm, DefsTerm}
use Rattle.widl_overload.specs.sets.Sets.{effective_tuples}
use Rattle.widl_spell.specs.Ids.{id_order, parents_of}
use Rattle.widl_sets.specs.Lines.{lines_of_set}
use Rattle.widl_trace.specs.CalleeTexts.{constructor_text, operation_text}

-- the lines of the effective overload set of these overloads
abbrev pub callee_lines : DefsTerm → List ℕ → List SigTerm → List ℕ
callee_lines defs callee sigs = lines_of_set defs callee (effective_tuples sigs 0)

abbrev pub operation_lines : DefsTerm → List ℕ → OpNameTerm → List ℕ
operation_lines defs owner op = callee_lines defs (operation_text owner op.fixed op.name) op.sigs

-- the constructors, then the operations by their names
abbrev pub interface_lines : DefsTerm → IfaceTerm → List ℕ
interface_lines defs i = callee_lines defs (constructor_text i.name) i.ctors ++ flat_map (operation_lines defs i.name) i.members.ops

abbrev pub namespace_lines : DefsTerm → SpaceTerm → List ℕ
namespace_lines defs s = flat_map (operation_lines defs s.name) s.members.ops

abbrev pub lines_or_none : DefsTerm → Option IfaceTerm → List ℕ
lines_or_none defs None = []
lines_or_none defs (Some i) = interface_lines defs i

abbrev pub lines_at : DefsTerm → ℕ → List ℕ
lines_at defs n = lines_or_none defs (slice_get defs.ifaces n)

-- the lines of all that can be called: the interfaces in the order of their ids, then the namespaces
unfoldable pub all_lines : DefsTerm → List ℕ
all_lines defs = flat_map (lines_at defs) (id_order (parents_of defs.ifaces)) ++ flat_map (namespace_lines defs) defs.spaces
