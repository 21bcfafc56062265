-- What each change does to the list of objects, and what it answers.
-- Source: ECMA-262, OrdinarySet, OrdinaryDefineOwnProperty, OrdinaryDelete, and [[DefineOwnProperty]] of "Array Exotic Objects".
-- This program's own: a property that isn't configurable is never defined anew, and the length of an array is neither put nor defined.
use Rattle.std.specs.Prelude.{ℕ, ◌+◌, Bool, true, false, if◌then◌else◌, int_lt, pos, List, [], ◌∷◌, ◌++◌, slice_get, slice_set, Option, None, Some}
use Rattle.std.specs.Option.{option_map_or}
use Rattle.std.specs.declared.result.Result.{Result}
use Rattle.std.specs.declared.result.Result.TheVariants.{Ok, Err}
use Rattle.widl_store.specs.declared.effects.DefineFault.{DefineFault}
use Rattle.widl_store.specs.declared.effects.DefineFault.TheVariants.{NotConfigurable, Length as LengthDefined}
use Rattle.widl_store.specs.declared.effects.NotConfigurable as refusal
use Rattle.widl_store.specs.declared.effects.Put.{Put}
use Rattle.widl_store.specs.declared.effects.Put.TheVariants.{Done, Setter}
use Rattle.widl_store.specs.declared.effects.PutFault.{PutFault}
use Rattle.widl_store.specs.declared.effects.PutFault.TheVariants.{ReadOnly, NoSetter, Length as LengthPut}
use Rattle.widl_store.specs.declared.property.Prop.{Prop}
use Rattle.widl_store.specs.declared.property.Prop.TheVariants.{Plain, Accessor}
use Rattle.widl_store.specs.Inners.{InnerTerm, is_array}
use Rattle.widl_store.specs.Objects.{Obj, same_key, prop_at, with_prop, without_prop, flags_of, all_flags, length_key, length_prop}
use Rattle.widl_text.specs.declared.key.Key.{Key}
use Rattle.widl_text.specs.Index.{index_of}
use Rattle.widl_value.specs.declared.number.Number.TheVariants.{Whole}
use Rattle.widl_value.specs.declared.object.ObjRef.{ObjRef}
use Rattle.widl_value.specs.declared.object.Shape.{Shape}
use Rattle.widl_value.specs.declared.value.Value.{Value}
use Rattle.widl_value.specs.declared.value.Value.TheVariants.{Num}

abbrev pub with_props : Obj → List (Key × Prop) → Obj
with_props o props = record { proto = o.proto; shape = o.shape; props = props; inner = o.inner }

-- the objects, with the properties of one changed
abbrev pub changed : List Obj → ℕ → (Obj → List (Key × Prop)) → List Obj
changed objects id change = option_map_or (λ o. slice_set objects id (with_props o (change o))) (slice_get objects id) objects

-- whether the property is a length above the index
abbrev pub is_above : Prop → ℕ → Bool
is_above (Plain (Num (Whole length)) flags) index = int_lt (pos index) length
is_above _ index = false

abbrev pub raised_from : List (Key × Prop) → ℕ → Option Prop → List (Key × Prop)
raised_from props index None = props
raised_from props index (Some length) = if is_above length index then props else with_prop props length_key (length_prop (index + 1))

-- the length is raised to one more than an index that isn't below it
abbrev pub raised : Option ℕ → List (Key × Prop) → List (Key × Prop)
raised None props = props
raised (Some index) props = raised_from props index (prop_at props length_key)

-- the properties after one is put at the key: an index raises the length of an array
abbrev pub placed : Obj → Key → Prop → List (Key × Prop)
placed o key prop = if is_array o.inner then raised (index_of key) (with_prop o.props key prop) else with_prop o.props key prop

-- the length of an array can't be put or defined
abbrev pub is_fixed_in : Obj → Key → Bool
is_fixed_in o key = if is_array o.inner then same_key key length_key else false

unfoldable pub is_fixed : List Obj → ℕ → Key → Bool
is_fixed objects id key = option_map_or (λ o. is_fixed_in o key) (slice_get objects id) false

-- what a put answers by the property that its key finds
abbrev pub put_answer : Option Prop → Value → Result Put PutFault
put_answer None value = Ok Done
put_answer (Some (Plain held flags)) value = if flags.writable then Ok Done else Err (ReadOnly flags)
put_answer (Some (Accessor getter None flags)) value = Err NoSetter
put_answer (Some (Accessor getter (Some setter) flags)) value = Ok (Setter setter value)

-- what a put answers: the length of an array comes first
abbrev pub put_of : Bool → Option Prop → Value → Result Put PutFault
put_of true found value = Err LengthPut
put_of false found value = put_answer found value

-- the property with this value: its flags are those that it had, or all three
abbrev pub plain_with : Value → Option Prop → Prop
plain_with value None = Plain value all_flags
plain_with value (Some prop) = Plain value (flags_of prop)

-- the objects after a value is put at the key of one
abbrev pub put_in : List Obj → ℕ → Key → Value → List Obj
put_in objects id key value = changed objects id (λ o. placed o key (plain_with value (prop_at o.props key)))

-- what a definition answers by the property that the object itself has
abbrev pub define_of : Bool → Option Prop → Result (Unit {0}) DefineFault
define_of true own = Err LengthDefined
define_of false None = Ok tt
define_of false (Some prop) = if (flags_of prop).configurable then Ok tt else Err (NotConfigurable (flags_of prop))

-- the objects after a property of one is defined
abbrev pub defined : List Obj → ℕ → Key → Prop → List Obj
defined objects id key prop = changed objects id (λ o. placed o key prop)

-- what a deletion answers by the property that the object itself has
abbrev pub delete_of : Option Prop → Result (Unit {0}) refusal.NotConfigurable
delete_of None = Ok tt
delete_of (Some prop) = if (flags_of prop).configurable then Ok tt else Err (record { 0 = flags_of prop })

-- the objects after a property of one is deleted
abbrev pub deleted : List Obj → ℕ → Key → List Obj
deleted objects id key = changed objects id (λ o. without_prop o.props key)

-- what an object begins with: an array its length, any other nothing
abbrev pub first_props : InnerTerm → List (Key × Prop)
first_props inner = if is_array inner then (length_key, length_prop 0) ∷ [] else []

abbrev pub new_object : Option ObjRef → Shape → InnerTerm → Obj
new_object proto shape inner = record { proto = proto; shape = shape; props = first_props inner; inner = inner }

-- the objects after one is added, whose number is the next
abbrev pub added : List Obj → Option ObjRef → Shape → InnerTerm → List Obj
added objects proto shape inner = objects ++ new_object proto shape inner ∷ []

abbrev pub with_part : Obj → InnerTerm → Obj
with_part o inner = record { proto = o.proto; shape = o.shape; props = o.props; inner = inner }

-- the objects, with the inner part of one changed
abbrev pub with_inner : List Obj → ℕ → InnerTerm → List Obj
with_inner objects id inner = option_map_or (λ o. slice_set objects id (with_part o inner)) (slice_get objects id) objects
