-- For contracts' models alone: the units that a storage has.
use Rattle.std.specs.Prelude.{ℕ, List, ◌≤◌, take}
use Rattle.widl_text.specs.declared.units.Storage.{Storage}
use Rattle.widl_text.specs.declared.units.Storage.TheVariants.{Inline, Owned, Shared}

abbrev pub units_in : Storage → List ℕ
units_in (Inline alloc count units) = take count units
units_in (Owned items) = items.items
units_in (Shared items) = items.value.items

-- the units that are counted are there
abbrev pub HasRoom : Storage → Type 0
HasRoom (Inline alloc count units) = count ≤ 15
HasRoom (Owned items) = Unit {0}
HasRoom (Shared items) = Unit {0}
