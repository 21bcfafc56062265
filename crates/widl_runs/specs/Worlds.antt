-- Worlds: all that the rest of a run depends on, and what it has shown so far.
-- Source: ECMA-262, "Execution Contexts" and "Environment Records", for functions without closures; units and lines are this program's own.
use Rattle.std.specs.Prelude.{ℕ, Bool, false, if◌then◌else◌, bytes_eq, List, [], ◌∷◌, Option, None, Some, position}
use Rattle.std.specs.List.{list_any}
use Rattle.std.specs.Map.{lookup}
use Rattle.widl_idl.specs.declared.callee.Owner.{Owner}
use Rattle.widl_idl.specs.declared.callee.Owner.TheVariants.{Iface, Space}
use Rattle.widl_idl.specs.DefinitionTerms.{DefsTerm}
use Rattle.widl_value.specs.declared.object.ObjRef.{ObjRef}
use Rattle.widl_value.specs.declared.value.Value.{Value}
use Rattle.widl_value.specs.declared.value.Value.TheVariants.{Undefined, Obj}
use Rattle.widl_store.specs.declared.homes.Home.TheVariants as homes
use Rattle.widl_store.specs.Objects.{StoreState, home_of}
use Rattle.widl_script_tree.specs.Trees.{Text, FunctionTree}
use Rattle.widl_trace.specs.EventTerms.{EventTerm}

-- names with what is bound to them, in the order in which they were first bound
abbrev pub Bindings : Type 0
Bindings = List (Text × Value)

-- the context of an open call
pub record Context : Type 0 where
  pub this : Value
  -- the names that are local in its function
  pub names : List Text
  -- what is bound to those of them that are bound
  pub locals : Bindings

pub record World : Type 0 where
  pub store : StoreState
  pub globals : Bindings
  -- the number of the next symbol
  pub next_symbol : ℕ
  -- the events so far, a line of the trace for each
  pub lines : List EventTerm
  -- the units of the budget that are left
  pub units : ℕ
  -- the contexts of the open calls, the innermost first
  pub contexts : List Context

-- 1. Names

abbrev pub value_of : Bindings → Text → Option Value
value_of bindings name = lookup (bytes_eq name) bindings

-- with the value bound to the name: in its place where the name is bound, else last
abbrev pub with_value : Bindings → Text → Value → Bindings
with_value [] name value = (name, value) ∷ []
with_value (b ∷ bs) name value = if bytes_eq name b.0 then (b.0, value) ∷ bs else b ∷ with_value bs name value

abbrev pub value_or_undefined : Option Value → Value
value_or_undefined None = Undefined
value_or_undefined (Some value) = value

-- whether a name is local where a script stands: outside calls none is
abbrev pub is_local : List Context → Text → Bool
is_local [] name = false
is_local (c ∷ cs) name = list_any (bytes_eq name) c.names

abbrev pub local_value : List Context → Text → Option Value
local_value [] name = None
local_value (c ∷ cs) name = value_of c.locals name

-- the contexts with a local of the innermost one bound
abbrev pub with_local : List Context → Text → Value → List Context
with_local [] name value = []
with_local (c ∷ cs) name value = record { this = c.this; names = c.names; locals = with_value c.locals name value } ∷ cs

abbrev pub owner_or : Option ℕ → Option ℕ → Option Owner
owner_or (Some i) space = Some (Iface i)
owner_or None (Some n) = Some (Space n)
owner_or None None = None

-- the interface or the namespace that has the name
abbrev pub owner_named : DefsTerm → Text → Option Owner
owner_named list name = owner_or (position (λ i. bytes_eq name i.name) list.ifaces) (position (λ n. bytes_eq name n.name) list.spaces)

-- the interface object or the namespace object
abbrev pub owner_object : StoreState → Option Owner → Option ObjRef
owner_object store None = None
owner_object store (Some owner) = home_of store.homes (homes.Owner owner)

-- a global that is bound hides an interface or a namespace of its name
abbrev pub global_value : Option Value → Option ObjRef → Value
global_value (Some value) object = value
global_value None (Some object) = Obj object
global_value None None = Undefined

-- what a name stands for: a local, where the function has the name, and else a global; what is not bound is undefined
abbrev pub named_value : DefsTerm → World → Text → Value
named_value list w name =
    if is_local w.contexts name then value_or_undefined (local_value w.contexts name) else global_value (value_of w.globals name) (owner_object w.store (owner_named list name))

-- the world with a value bound to a name
abbrev pub bound_world : World → Text → Value → World
bound_world w name value = if is_local w.contexts name then record w { contexts = with_local w.contexts name value } else record w { globals = with_value w.globals name value }

-- outside calls `this` is undefined
abbrev pub this_value : List Context → Value
this_value [] = Undefined
this_value (c ∷ cs) = c.this

-- 2. Contexts

-- each parameter with its argument; one without an argument stays unbound, and so is undefined
abbrev pub bound_parameters : Bindings → List Text → List Value → Bindings
bound_parameters bindings [] args = bindings
bound_parameters bindings (p ∷ ps) [] = bindings
bound_parameters bindings (p ∷ ps) (v ∷ vs) = bound_parameters (with_value bindings p v) ps vs

abbrev pub function_context : FunctionTree → Value → List Value → Context
function_context f this args = record { this = this; names = f.names; locals = bound_parameters [] f.params args }

-- the context of a function that isn't written in the script: its arguments have no names
abbrev pub builtin_context : Value → Context
builtin_context this = record { this = this; names = []; locals = [] }

-- without the innermost context
abbrev pub outer_contexts : List Context → List Context
outer_contexts [] = []
outer_contexts (c ∷ cs) = cs
