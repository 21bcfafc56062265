-- For proofs alone. The words that begin types.
use Rattle.std.specs.Prelude.{◌≡◌, Bool, true, false, List}
use Rattle.widl_idl.specs.declared.int_kind.IntKind.{IntKind}
use Rattle.widl_idl.specs.declared.int_kind.IntKind.TheVariants as int
use Rattle.widl_idl.specs.declared.tree.types.FloatKind.{FloatKind}
use Rattle.widl_idl.specs.declared.tree.types.FloatKind.TheVariants as float
use Rattle.widl_idl.specs.declared.tree.types.TypeForm.{TypeForm}
use Rattle.widl_idl.specs.PlainTypes.{form_term}
use Rattle.widl_idl.specs.TypeTrees.{form_of}
use Rattle.widl_grammar.specs.declared.terminal.Terminal.{Terminal}
use Rattle.widl_grammar.specs.declared.terminal.Terminal.TheVariants as t
use Rattle.widl_syntax.specs.Nesting.{form_levels}
use Rattle.widl_syntax.specs.Signs.{Sign, word, ◌⧺◌}
use Rattle.widl_syntax.specs.UnparsedTypes.{form_signs}

-- the words of an integer type without `unsigned`
abbrev pub integer_rest : IntKind → List Sign
integer_rest int.Byte = word t.Byte
integer_rest int.Octet = word t.Octet
integer_rest int.Short = word t.Short
integer_rest int.UShort = word t.Short
integer_rest int.Long = word t.Long
integer_rest int.ULong = word t.Long
integer_rest int.LongLong = word t.Long ⧺ word t.Long
integer_rest int.ULongLong = word t.Long ⧺ word t.Long

-- the word of a floating point type without `unrestricted`
abbrev pub float_rest : FloatKind → List Sign
float_rest float.Float = word t.Float
float_rest float.UnrestrictedFloat = word t.Float
float_rest float.Double = word t.Double
float_rest float.UnrestrictedDouble = word t.Double

-- a primitive type begins with the terminal
abbrev pub is_primitive_word : Terminal → Bool
is_primitive_word t.Unsigned = true
is_primitive_word t.Short = true
is_primitive_word t.Long = true
is_primitive_word t.Unrestricted = true
is_primitive_word t.Float = true
is_primitive_word t.Double = true
is_primitive_word t.Boolean = true
is_primitive_word t.Byte = true
is_primitive_word t.Octet = true
is_primitive_word t.Bigint = true
is_primitive_word _ = false

-- a buffer type is the terminal
abbrev pub is_buffer_word : Terminal → Bool
is_buffer_word t.ArrayBuffer = true
is_buffer_word t.SharedArrayBuffer = true
is_buffer_word t.DataView = true
is_buffer_word t.Int8Array = true
is_buffer_word t.Int16Array = true
is_buffer_word t.Int32Array = true
is_buffer_word t.Uint8Array = true
is_buffer_word t.Uint16Array = true
is_buffer_word t.Uint32Array = true
is_buffer_word t.Uint8ClampedArray = true
is_buffer_word t.BigInt64Array = true
is_buffer_word t.BigUint64Array = true
is_buffer_word t.Float16Array = true
is_buffer_word t.Float32Array = true
is_buffer_word t.Float64Array = true
is_buffer_word _ = false

-- a type other than a primitive one is the terminal
abbrev pub is_type_word : Terminal → Bool
is_type_word t.Undefined = true
is_type_word t.Object = true
is_type_word t.Symbol = true
is_type_word t.DomString = true
is_type_word t.UsvString = true
is_type_word t.ByteString = true
is_type_word terminal = is_buffer_word terminal

-- a generic type with one argument begins with the terminal
abbrev pub is_container_word : Terminal → Bool
is_container_word t.Sequence = true
is_container_word t.AsyncSequence = true
is_container_word t.FrozenArray = true
is_container_word t.ObservableArray = true
is_container_word _ = false

-- the form of a type is that of the one word, which passes a test
pub record IsWordForm (test : Terminal → Bool) (terminal : Terminal) (form : TypeForm) : Type 0 where
  pub known : test terminal ≡ true
  pub signs : form_signs (form_of form) ≡ word terminal
  pub flat : form_levels (form_term form) ≡ 1
