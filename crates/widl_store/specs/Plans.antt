-- Objects that are there before a script begins, each as a plan: the words for the rows of the table of flags, and the object of a plan.
-- Source: Web IDL, "Defining the operations", "Namespace object"; ECMA-262, "ECMAScript Standard Built-in Objects".
use Rattle.std.specs.Prelude.{ℕ, true, false, List, [], ◌∷◌, Option, Some, codes, pos}
use Rattle.widl_store.specs.declared.inner.Builtin.{Builtin}
use Rattle.widl_store.specs.declared.property.Prop.{Prop}
use Rattle.widl_store.specs.declared.property.Prop.TheVariants.{Plain}
use Rattle.widl_store.specs.Effects.{first_props}
use Rattle.widl_store.specs.Inners.{InnerTerm, BuiltinPart}
use Rattle.widl_store.specs.Objects.{Obj, with_prop, plain_object, function_object}
use Rattle.widl_text.specs.declared.key.Key.{Key}
use Rattle.widl_text.specs.declared.key.Key.TheVariants.{Name, Sym}
use Rattle.widl_value.specs.declared.flags.Flags.{Flags}
use Rattle.widl_value.specs.declared.number.Number.TheVariants.{Whole}
use Rattle.widl_value.specs.declared.object.ObjRef.{ObjRef}
use Rattle.widl_value.specs.declared.object.Shape.{Shape}
use Rattle.widl_value.specs.declared.object.Shape.TheVariants as shapes
use Rattle.widl_value.specs.declared.value.Value.TheVariants as values

pub record Plan : Type 0 where
  pub proto : Option ObjRef
  pub shape : Shape
  pub inner : InnerTerm
  pub entries : List (Key × Prop)

-- the flags: writable, enumerable, configurable
abbrev pub operation_flags : Flags
operation_flags = record { writable = true; enumerable = true; configurable = true }

abbrev pub method_flags : Flags
method_flags = record { writable = true; enumerable = false; configurable = true }

abbrev pub fixed_flags : Flags
fixed_flags = record { writable = false; enumerable = false; configurable = true }

-- an operation of a definition: the function of this number
abbrev pub operation : List ℕ → ℕ → Key × Prop
operation text id = (Name text, Plain (values.Obj (function_object id)) operation_flags)

-- a method of an object of ECMA-262, by a name, and by the symbol `@iterator`
abbrev pub method : List ℕ → ℕ → Key × Prop
method text id = (Name text, Plain (values.Obj (function_object id)) method_flags)

abbrev pub iterator : ℕ → Key × Prop
iterator id = (Sym 0, Plain (values.Obj (function_object id)) method_flags)

-- `@toStringTag`
abbrev pub tag : List ℕ → Key × Prop
tag text = (Sym 2, Plain (values.Str text) fixed_flags)

-- the length of a function, and its name
abbrev pub number : ℕ → Key × Prop
number n = (Name (codes "length"), Plain (values.Num (Whole (pos n))) fixed_flags)

abbrev pub name : List ℕ → Key × Prop
name text = (Name (codes "name"), Plain (values.Str text) fixed_flags)

-- an object, on the prototype of this number
abbrev pub object_on : ℕ → InnerTerm → List (Key × Prop) → Plan
object_on proto inner entries = record { proto = Some (plain_object proto); shape = shapes.Plain; inner = inner; entries = entries }

-- a function, which has its length and then its name
abbrev pub function_entries : ℕ → List ℕ → List (Key × Prop)
function_entries n text = number n ∷ name text ∷ []

abbrev pub function : Builtin → ℕ → List ℕ → Plan
function what n text = record { proto = Some (plain_object 1); shape = shapes.Callable; inner = BuiltinPart what; entries = function_entries n text }

-- properties that are defined one after another
abbrev pub with_entries : List (Key × Prop) → List (Key × Prop) → List (Key × Prop)
with_entries props [] = props
with_entries props (entry ∷ entries) = with_entries (with_prop props entry.0 entry.1) entries

abbrev pub object_of : Plan → Obj
object_of plan = record { proto = plan.proto; shape = plan.shape; props = with_entries (first_props plan.inner) plan.entries; inner = plan.inner }
