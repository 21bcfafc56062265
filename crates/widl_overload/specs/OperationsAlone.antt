-- The lists of definitions for which stores and scripts are defined so far. It goes with the last kind of definition that they know.
use Rattle.std.specs.Prelude.{◌≡◌, ◌&&◌, Bool, true, false, List, [], ◌∷◌}
use Rattle.std.specs.List.{list_all}
use Rattle.widl_idl.specs.DefinitionTerms.{DefsTerm, SpaceTerm}

abbrev pub is_none : {X : Type 0} → List X → Bool
is_none [] = true
is_none (x ∷ xs) = false

-- a namespace with operations alone
abbrev pub has_operations_alone : SpaceTerm → Bool
has_operations_alone n = is_none n.members.attrs && is_none n.members.consts

-- no interface, and namespaces with operations alone
abbrev pub has_operations_only : DefsTerm → Bool
has_operations_only defs = is_none defs.ifaces && list_all has_operations_alone defs.spaces

abbrev pub HasOperationsAlone : DefsTerm → Type 0
HasOperationsAlone defs = has_operations_only defs ≡ true
