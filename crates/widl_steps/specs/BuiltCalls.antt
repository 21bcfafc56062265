-- What is built of the functions that are there before a script begins: a line for each. Where a function isn't built, its call ends there.
-- This file goes when all are built.
-- Source: this program's own.
use Rattle.std.specs.Prelude.{Bool, true, false, ◌||◌, nat_eq}
use Rattle.widl_idl.specs.declared.callee.Callee.{Callee}
use Rattle.widl_idl.specs.declared.callee.Owner.{Owner}
use Rattle.widl_idl.specs.declared.callee.Owner.TheVariants as owners
use Rattle.widl_idl.specs.declared.callee.Part.{Part}
use Rattle.widl_idl.specs.declared.callee.Part.TheVariants as parts
use Rattle.widl_store.specs.declared.inner.Builtin.{Builtin}
use Rattle.widl_store.specs.declared.inner.Builtin.TheVariants as builtins
use Rattle.widl_steps.specs.Built.{Built, built_today}

-- the conversions, and the functions
pub record BuiltCalls : Type 0 where
  pub conversions : Built
  pub functions : Builtin → Bool

abbrev pub is_built_part : Part → Bool
is_built_part (parts.Op n) = true
is_built_part parts.Constructor = false
is_built_part (parts.Get n) = false
is_built_part (parts.Set n) = false
is_built_part parts.Text = false

abbrev pub is_built_owner : Owner → Part → Bool
is_built_owner (owners.Space n) part = is_built_part part
is_built_owner (owners.Iface n) part = false

-- of the intrinsic functions #8 and #9 of objects, #12 to #14 by which arrays are iterated over; and #15 to #17, which no run does
abbrev pub is_built_function : Builtin → Bool
is_built_function (builtins.Intrinsic number) = nat_eq number 8 || nat_eq number 9 || nat_eq number 12 || nat_eq number 13 || nat_eq number 14 || nat_eq number 15 || nat_eq number 16 || nat_eq number 17
is_built_function (builtins.Callee callee) = is_built_owner callee.owner callee.part
is_built_function (builtins.InterfaceObject iface) = false
is_built_function (builtins.Pairs iface what) = false

abbrev pub calls_built_today : BuiltCalls
calls_built_today = record { conversions = built_today; functions = is_built_function }
