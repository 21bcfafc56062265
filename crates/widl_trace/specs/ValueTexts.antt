-- Values and keys in a trace (this program's own).
use Rattle.std.specs.Prelude.{ℕ, ◌+◌, ◌/◌, ◌%◌, ◌==◌, ◌&&◌, ◌||◌, ◌++◌, Bool, true, false, not, nat_lt, nat_le, if◌then◌else◌, List, [], ◌∷◌, codes, decimal, zero, suc}
use Rattle.std.specs.Fmt.{signed_decimal}
use Rattle.std.specs.List.{flat_map}
use Rattle.widl_text.specs.declared.key.Key.{Key}
use Rattle.widl_text.specs.declared.key.Key.TheVariants as keys
use Rattle.widl_value.specs.declared.number.Number.{Number}
use Rattle.widl_value.specs.declared.number.Number.TheVariants as numbers
use Rattle.widl_value.specs.declared.object.ObjRef.{ObjRef}
use Rattle.widl_value.specs.declared.value.Value.{Value}
use Rattle.widl_value.specs.declared.value.Value.TheVariants as values

-- a hexadecimal digit, in lower case
abbrev pub hex_digit : ℕ → ℕ
hex_digit d = if nat_lt d 10 then 48 + d else 87 + d

-- a unit as `\u` and its four hexadecimal digits
abbrev pub escape : ℕ → List ℕ
escape unit = codes "\\u" ++ hex_digit (unit / 4096 % 16) ∷ hex_digit (unit / 256 % 16) ∷ hex_digit (unit / 16 % 16) ∷ hex_digit (unit % 16) ∷ []

-- the printable characters of ASCII are written as they are, but for the quotation mark and the backslash
abbrev pub is_itself : ℕ → Bool
is_itself unit = nat_le 32 unit && nat_le unit 126 && not (unit == 34 || unit == 92)

abbrev pub unit_text : ℕ → List ℕ
unit_text unit = if is_itself unit then unit ∷ [] else escape unit

-- a text in quotes
abbrev pub quoted : List ℕ → List ℕ
quoted text = codes "\"" ++ flat_map unit_text text ++ codes "\""

-- a whole number as its exact digits
abbrev pub exact_text : Number → List ℕ
exact_text numbers.NaN = codes "NaN"
exact_text numbers.PosInf = codes "Infinity"
exact_text numbers.NegInf = codes "-Infinity"
exact_text (numbers.Whole n) = signed_decimal n

-- three symbols have names, the others numbers
abbrev pub symbol_text : ℕ → List ℕ
symbol_text zero = codes "@iterator"
symbol_text (suc zero) = codes "@toPrimitive"
symbol_text (suc (suc zero)) = codes "@toStringTag"
symbol_text id = codes "@" ++ decimal id

abbrev pub object_text : ObjRef → List ℕ
object_text obj = codes "#" ++ decimal obj.id

abbrev pub boolean_text : Bool → List ℕ
boolean_text true = codes "true"
boolean_text false = codes "false"

abbrev pub value_text : Value → List ℕ
value_text values.Undefined = codes "undefined"
value_text values.Null = codes "null"
value_text (values.Bool b) = boolean_text b
value_text (values.Num number) = exact_text number
value_text (values.Str text) = quoted text
value_text (values.Sym id) = symbol_text id
value_text (values.Obj obj) = object_text obj

abbrev pub key_text : Key → List ℕ
key_text (keys.Name text) = quoted text
key_text (keys.Sym id) = symbol_text id
