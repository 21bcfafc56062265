-- For proofs alone. A property with the number of its creation, and a property whose parts are lent.
use Rattle.std.specs.Prelude.{ℕ}
use Rattle.widl_store.specs.declared.held.Slot.{Slot}
use Rattle.widl_store.specs.declared.held.Slot.TheVariants as slots
use Rattle.widl_store.specs.declared.property.Prop.{Prop}
use Rattle.widl_store.specs.declared.property.Prop.TheVariants.{Plain, Accessor}
use Rattle.widl_store.specs.declared.property.PropRef.{PropRef}
use Rattle.widl_store.specs.declared.property.PropRef.TheVariants as parts

pub record Created : Type 0 where
  pub number : ℕ
  pub prop : Prop

abbrev pub created : Slot → Created
created (slots.Plain flags number value) = record { number = number; prop = Plain value flags }
created (slots.Accessor flags number getter setter) = record { number = number; prop = Accessor getter setter flags }

abbrev pub prop_of : PropRef → Prop
prop_of (parts.Plain value flags) = Plain value.now flags
prop_of (parts.Accessor getter setter flags) = Accessor getter setter flags
