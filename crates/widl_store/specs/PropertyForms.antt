-- For proofs alone. The two forms in which an object holds its properties.
use Rattle.std.specs.Prelude.{List, ⊤}
use Rattle.std.specs.List.{IsDistinct}
use Rattle.std.specs.Map.{keys_of}
use Rattle.widl_store.specs.declared.property.Prop.{Prop}
use Rattle.widl_store.specs.declared.property_map.Form.{Form}
use Rattle.widl_store.specs.declared.property_map.Form.TheVariants.{Few, Many}
use Rattle.widl_store.specs.Objects.{same_key}
use Rattle.widl_text.specs.declared.key.Key.{Key}

-- keys and properties in the order of creation
abbrev pub props_in : Form → List (Key × Prop)
props_in (Few entries) = entries.items
props_in (Many map) = map.value

abbrev pub HasEachOnce : List (Key × Prop) → Type 0
HasEachOnce props = IsDistinct same_key (keys_of props)

-- no key stands twice where there are few
abbrev pub IsHeldOnce : Form → Type 0
IsHeldOnce (Few entries) = HasEachOnce entries.items
IsHeldOnce (Many map) = ⊤
