-- The store before a script begins, for lists of namespaces with operations alone.
-- Source: Web IDL, "Namespace object", "Defining the operations"; the numbers are this program's own.
use Rattle.std.specs.Prelude.{ℕ, ◌+◌, ◌&&◌, Bool, if◌then◌else◌, min, fold, nat_eq, List, [], ◌∷◌, ◌++◌, length, map, Option, None, replicate}
use Rattle.widl_idl.specs.declared.callee.Owner.TheVariants.{Space}
use Rattle.widl_idl.specs.declared.callee.Part.TheVariants.{Op}
use Rattle.widl_idl.specs.DefinitionTerms.{DefsTerm, SpaceTerm, OpNameTerm, SigTerm, ArgTerm}
use Rattle.widl_overload.specs.sets.Sets.{is_end, is_free}
use Rattle.widl_store.specs.declared.homes.SpaceHome.{SpaceHome}
use Rattle.widl_store.specs.declared.inner.Builtin.TheVariants.{Callee}
use Rattle.widl_store.specs.Inners.{SpacePart}
use Rattle.widl_store.specs.Intrinsics.{intrinsics}
use Rattle.widl_store.specs.Objects.{StoreState}
use Rattle.widl_store.specs.Plans.{Plan, operation, tag, object_on, function, object_of}
use Rattle.widl_text.specs.declared.key.Key.{Key}
use Rattle.widl_value.specs.IdlTerms.{IdlTerm}
use Rattle.widl_store.specs.declared.property.Prop.{Prop}

-- how many arguments a call of an overload has to give: all but those at the end that it may leave out
abbrev pub needed_with : Bool → ℕ → ℕ
needed_with free rest = if free && nat_eq rest 0 then 0 else rest + 1

abbrev pub needed : List ArgTerm → ℕ
needed [] = 0
needed (arg ∷ args) = needed_with (is_free arg.opt (is_end args)) (needed args)

-- the least of these over the overloads of an operation, which is the length of the shortest tuple of its
-- effective overload set
abbrev pub shortest : List SigTerm → ℕ
shortest [] = 0
shortest (sig ∷ sigs) = fold min (needed sig.args) (map (λ s. needed s.args) sigs)

-- the function of the operations of a name, which has this place among those of the namespace
abbrev pub operation_function : ℕ → ℕ → OpNameTerm → Plan
operation_function space place op = function (Callee (record { owner = Space space; part = Op place })) (shortest op.sigs) op.name

-- the functions of a namespace, one for each operation name, from this name on
abbrev pub functions_from : ℕ → ℕ → List OpNameTerm → List Plan
functions_from space place [] = []
functions_from space place (op ∷ ops) = operation_function space place op ∷ functions_from space (place + 1) ops

-- the operations of a namespace object, whose functions have the numbers from this one on
abbrev pub operations_from : ℕ → List OpNameTerm → List (Key × Prop)
operations_from id [] = []
operations_from id (op ∷ ops) = operation op.name id ∷ operations_from (id + 1) ops

-- so many slots, all unset
abbrev pub unset_slots : ℕ → List (Option IdlTerm)
unset_slots count = replicate count None

-- the namespace object of this number, which has a slot for each attribute, its operations and then its tag
abbrev pub namespace_object : ℕ → SpaceTerm → Plan
namespace_object id n = object_on 0 (SpacePart (unset_slots (length n.members.attrs))) (operations_from (id + 1) n.members.ops ++ tag n.name ∷ [])

-- a namespace object, and then its functions
abbrev pub namespace_plans : ℕ → ℕ → SpaceTerm → List Plan
namespace_plans id space n = namespace_object id n ∷ functions_from space 0 n.members.ops

-- the number after those of a namespace
abbrev pub after : ℕ → SpaceTerm → ℕ
after id n = id + 1 + length n.members.ops

-- the namespaces from this one on, the first of which takes this number
abbrev pub namespaces_from : ℕ → ℕ → List SpaceTerm → List Plan
namespaces_from id space [] = []
namespaces_from id space (n ∷ rest) = namespace_plans id space n ++ namespaces_from (after id n) (space + 1) rest

-- the numbers of their objects, and how many slots these have
abbrev pub homes_from : ℕ → List SpaceTerm → List SpaceHome
homes_from id [] = []
homes_from id (n ∷ rest) = record { object = id; slots = length n.members.attrs } ∷ homes_from (after id n) rest

abbrev pub realm_plans : List SpaceTerm → List Plan
realm_plans spaces = intrinsics ++ namespaces_from 18 0 spaces

unfoldable pub realm_over : List SpaceTerm → StoreState
realm_over spaces = record { objects = map object_of (realm_plans spaces); homes = record { ifaces = []; spaces = homes_from 18 spaces } }

abbrev pub realm_of : DefsTerm → StoreState
realm_of defs = realm_over defs.spaces
