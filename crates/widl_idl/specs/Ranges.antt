-- The ranges of the integer types.
-- Source: Web IDL, "Integer types".
use Rattle.std.specs.Prelude.{◌-◌, ◌^◌, Bool, ◌&&◌, not, ℤ, pos, neg_ℤ, int_lt}
use Rattle.widl_idl.specs.declared.int_kind.IntKind.{IntKind}
use Rattle.widl_idl.specs.declared.int_kind.IntKind.TheVariants as ints

-- the least value of an integer type
abbrev pub least_value : IntKind → ℤ
least_value ints.Byte = neg_ℤ (pos (2 ^ 7))
least_value ints.Short = neg_ℤ (pos (2 ^ 15))
least_value ints.Long = neg_ℤ (pos (2 ^ 31))
least_value ints.LongLong = neg_ℤ (pos (2 ^ 63))
least_value kind = pos 0

-- the greatest value of an integer type
abbrev pub greatest_value : IntKind → ℤ
greatest_value ints.Byte = pos (2 ^ 7 - 1)
greatest_value ints.Octet = pos (2 ^ 8 - 1)
greatest_value ints.Short = pos (2 ^ 15 - 1)
greatest_value ints.UShort = pos (2 ^ 16 - 1)
greatest_value ints.Long = pos (2 ^ 31 - 1)
greatest_value ints.ULong = pos (2 ^ 32 - 1)
greatest_value ints.LongLong = pos (2 ^ 63 - 1)
greatest_value ints.ULongLong = pos (2 ^ 64 - 1)

-- whether an integer type has the value
abbrev pub is_in_range : IntKind → ℤ → Bool
is_in_range kind value = not (int_lt value (least_value kind)) && not (int_lt (greatest_value kind) value)
