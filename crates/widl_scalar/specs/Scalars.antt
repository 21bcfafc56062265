-- The conversion of a number to an integer kind.
use Rattle.std.specs.Prelude.{◌≡◌, ℕ, ◌-◌, ◌^◌, ◌≤◌, ℤ, pos, neg_ℤ, ◌+ℤ◌, ◌*ℤ◌, ◌≤ℤ◌, ◌*◌, ◌-ℤ◌, int_lt, if◌then◌else◌, unsigned_abs, Result, Ok, Err}
use Rattle.std.specs.Int.{int_rem_euclid}
use Rattle.widl_idl.specs.declared.int_kind.Mode.{Mode}
use Rattle.widl_idl.specs.declared.int_kind.Mode.TheVariants.{Wrap, Clamp, Enforce}
use Rattle.widl_scalar.specs.declared.int.NotInRange.{NotInRange}
use Rattle.widl_idl.specs.declared.int_kind.IntKind.{IntKind}
use Rattle.widl_idl.specs.declared.int_kind.IntKind.TheVariants.{Byte, Octet, Short, UShort, Long, ULong, LongLong, ULongLong}
use Rattle.widl_idl.specs.Ranges.{greatest_value, least_value}
use Rattle.widl_value.specs.declared.number.Number.{Number}
use Rattle.widl_value.specs.declared.number.Number.TheVariants.{NaN, PosInf, NegInf, Whole}

abbrev pub bits_of : IntKind → ℕ
bits_of Byte = 8
bits_of Octet = 8
bits_of Short = 16
bits_of UShort = 16
bits_of Long = 32
bits_of ULong = 32
bits_of LongLong = 64
bits_of ULongLong = 64

-- they differ by a multiple of the modulus
pub record Congruent (modulus : ℕ) (x value : ℤ) : Type 0 where
  pub turns : ℤ
  pub equal : x ≡ value +ℤ turns *ℤ pos modulus

-- the value is in the kind's range and differs from x by a multiple of 2 to the kind's bits
pub record Wraps (kind : IntKind) (x value : ℤ) : Type 0 where
  pub not_below : least_value kind ≤ℤ value
  pub not_above : value ≤ℤ greatest_value kind
  pub congruent : Congruent (2 ^ bits_of kind) x value

-- what a number becomes without a clamp or a test of its range
abbrev pub WrapsTo : Number → IntKind → ℤ → Type 0
WrapsTo (Whole x) kind value = Wraps kind x value
WrapsTo NaN kind value = value ≡ pos 0
WrapsTo PosInf kind value = value ≡ pos 0
WrapsTo NegInf kind value = value ≡ pos 0

-- the same, computed: the remainder by twice a half, and for signed kinds taken from minus the half on
abbrev pub unsigned_rest : ℕ → ℤ → ℤ
unsigned_rest half x = int_rem_euclid x (pos (2 * half))

abbrev pub signed_rest : ℕ → ℤ → ℤ
signed_rest half x = if int_lt (unsigned_rest half x) (pos half) then unsigned_rest half x else unsigned_rest half x -ℤ pos (2 * half)

abbrev pub wrapped : IntKind → ℤ → ℤ
wrapped Byte x = signed_rest (2 ^ 7) x
wrapped Short x = signed_rest (2 ^ 15) x
wrapped Long x = signed_rest (2 ^ 31) x
wrapped LongLong x = signed_rest (2 ^ 63) x
wrapped Octet x = unsigned_rest (2 ^ 7) x
wrapped UShort x = unsigned_rest (2 ^ 15) x
wrapped ULong x = unsigned_rest (2 ^ 31) x
wrapped ULongLong x = unsigned_rest (2 ^ 63) x

abbrev pub wrapped_of : Number → IntKind → ℤ
wrapped_of (Whole x) kind = wrapped kind x
wrapped_of NaN kind = pos 0
wrapped_of PosInf kind = pos 0
wrapped_of NegInf kind = pos 0

-- the bounds of a clamp and of an enforced range: the kind's range, and for 64 bits the integers up to 2^53 - 1 in magnitude
abbrev pub lower_bound : IntKind → ℤ
lower_bound LongLong = neg_ℤ (pos (2 ^ 53 - 1))
lower_bound kind = least_value kind

abbrev pub upper_bound : IntKind → ℤ
upper_bound LongLong = pos (2 ^ 53 - 1)
upper_bound ULongLong = pos (2 ^ 53 - 1)
upper_bound kind = greatest_value kind

-- of the numbers from low to high, the value is the one nearest to x
pub record NearestWithin (low high x value : ℤ) : Type 0 where
  pub not_below : low ≤ℤ value
  pub not_above : value ≤ℤ high
  pub least_distance : (other : ℤ) → low ≤ℤ other → other ≤ℤ high → unsigned_abs (x -ℤ value) ≤ unsigned_abs (x -ℤ other)

-- what a number becomes by a clamp
abbrev pub ClampsTo : Number → IntKind → ℤ → Type 0
ClampsTo (Whole x) kind value = NearestWithin (lower_bound kind) (upper_bound kind) x value
ClampsTo NaN kind value = value ≡ pos 0
ClampsTo PosInf kind value = value ≡ upper_bound kind
ClampsTo NegInf kind value = value ≡ lower_bound kind

-- the same, computed
abbrev pub clamped : ℤ → ℤ → ℤ → ℤ
clamped low high x = if int_lt x low then low else if int_lt high x then high else x

abbrev pub clamped_of : Number → IntKind → ℤ
clamped_of (Whole x) kind = clamped (lower_bound kind) (upper_bound kind) x
clamped_of NaN kind = pos 0
clamped_of PosInf kind = upper_bound kind
clamped_of NegInf kind = lower_bound kind

-- a whole number from the lower bound to the upper one
abbrev pub IsInBounds : Number → IntKind → Type 0
IsInBounds (Whole x) kind = (lower_bound kind ≤ℤ x) × (x ≤ℤ upper_bound kind)
IsInBounds NaN kind = ⊥
IsInBounds PosInf kind = ⊥
IsInBounds NegInf kind = ⊥

-- the number itself where it is in the bounds, and otherwise its refusal
abbrev pub enforced : ℤ → ℤ → ℤ → Result ℤ NotInRange
enforced low high x = if int_lt x low then Err (record { 0 = Whole x }) else if int_lt high x then Err (record { 0 = Whole x }) else Ok x

abbrev pub enforced_of : Number → IntKind → Result ℤ NotInRange
enforced_of (Whole x) kind = enforced (lower_bound kind) (upper_bound kind) x
enforced_of NaN kind = Err (record { 0 = NaN })
enforced_of PosInf kind = Err (record { 0 = PosInf })
enforced_of NegInf kind = Err (record { 0 = NegInf })

-- the answer of a conversion in each mode
abbrev pub integer_of : Number → IntKind → Mode → Result ℤ NotInRange
integer_of x kind Wrap = Ok (wrapped_of x kind)
integer_of x kind Clamp = Ok (clamped_of x kind)
integer_of x kind Enforce = enforced_of x kind
