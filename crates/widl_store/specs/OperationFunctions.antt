-- The functions of operations among the first objects.
-- Source: Web IDL, "Creating an operation function".
use Rattle.std.specs.Prelude.{◌≡◌, ℕ, ◌&&◌, Bool, false, nat_eq, codes, filter, slice_get, List, [], ◌∷◌, Some}
use Rattle.widl_idl.specs.declared.callee.Callee.{Callee as CalleeTerm}
use Rattle.widl_idl.specs.declared.callee.Owner.{Owner}
use Rattle.widl_idl.specs.declared.callee.Owner.TheVariants.{Space}
use Rattle.widl_idl.specs.declared.callee.Part.{Part}
use Rattle.widl_idl.specs.declared.callee.Part.TheVariants.{Op}
use Rattle.widl_idl.specs.DefinitionTerms.{SpaceTerm, OpNameTerm}
use Rattle.widl_store.specs.declared.inner.Builtin.{Builtin}
use Rattle.widl_store.specs.declared.inner.Builtin.TheVariants.{Callee}
use Rattle.widl_store.specs.declared.property.Prop.TheVariants.{Plain}
use Rattle.widl_store.specs.Inners.{InnerTerm, BuiltinPart}
use Rattle.widl_store.specs.Objects.{Obj, prop_at}
use Rattle.widl_store.specs.Plans.{object_of, fixed_flags}
use Rattle.widl_store.specs.Realm.{operation_function, realm_over}
use Rattle.widl_text.specs.declared.key.Key.TheVariants.{Name}
use Rattle.widl_value.specs.declared.value.Value.TheVariants.{Str}

abbrev pub is_space : ℕ → Owner → Bool
is_space space (Space i) = nat_eq space i
is_space space owner = false

abbrev pub is_operation : ℕ → Part → Bool
is_operation place (Op p) = nat_eq place p
is_operation place part = false

abbrev pub is_callee : ℕ → ℕ → Builtin → Bool
is_callee space place (Callee c) = is_space space c.owner && is_operation place c.part
is_callee space place other = false

abbrev pub runs_operation : ℕ → ℕ → InnerTerm → Bool
runs_operation space place (BuiltinPart f) = is_callee space place f
runs_operation space place other = false

-- the object is the function of the operations of the name that has this place in this namespace
abbrev pub is_function_of : ℕ → ℕ → Obj → Bool
is_function_of space place o = runs_operation space place o.inner

-- of the first objects exactly one is the function of an operation name, and that is the one of its definition
abbrev pub HaveOneFunctionEach : Type 0
HaveOneFunctionEach =
    (spaces : List SpaceTerm) (space place : ℕ) (n : SpaceTerm) (op : OpNameTerm) → slice_get spaces space ≡ Some n → slice_get n.members.ops place ≡ Some op → filter (is_function_of space place) (realm_over spaces).objects ≡ object_of (operation_function space place op) ∷ []

-- its property `name` is that name
abbrev pub AreNamed : Type 0
AreNamed = (space place : ℕ) (op : OpNameTerm) → prop_at (object_of (operation_function space place op)).props (Name (codes "name")) ≡ Some (Plain (Str op.name) fixed_flags)
