-- The inner parts of objects as plain terms: IDL values by their terms, without places in memory.
-- Source: ECMA-262, "Object Internal Methods and Internal Slots"; Web IDL, "platform object", "Namespace object", "Interface object".
use Rattle.std.specs.Prelude.{ℕ, Bool, true, false, Option, List, length}
use Rattle.widl_value.specs.IdlTerms.{IdlTerm, slot_terms, pair_terms}
use Rattle.widl_value.specs.declared.object.ObjRef.{ObjRef}
use Rattle.widl_value.specs.declared.object.Shape.{Shape}
use Rattle.widl_value.specs.declared.object.Shape.TheVariants as shapes
use Rattle.widl_store.specs.declared.inner.Builtin.{Builtin}
use Rattle.widl_store.specs.declared.inner.Inner.{Inner}
use Rattle.widl_store.specs.declared.inner.Inner.TheVariants as parts
use Rattle.widl_store.specs.declared.inner.PairKind.{PairKind}
use Rattle.widl_store.specs.declared.inner.Settled.{Settled}
use Rattle.widl_store.specs.declared.inner.Turn.{Turn}

pub data InnerTerm : Type 0 where
  PlainPart : InnerTerm
  ArrayPart : InnerTerm
  ErrorPart : InnerTerm
  ScriptPart : ℕ → InnerTerm
  BuiltinPart : Builtin → InnerTerm
  InterfacePart : ℕ → List (Option IdlTerm) → InnerTerm
  PlatformPart : List (Option IdlTerm) → List (IdlTerm × IdlTerm) → InnerTerm
  SpacePart : List (Option IdlTerm) → InnerTerm
  PairIteratorPart : ObjRef → PairKind → ℕ → InnerTerm
  ArrayIteratorPart : ObjRef → ℕ → Turn → InnerTerm
  PromisePart : Settled → InnerTerm

-- the term of an inner part
abbrev pub inner_term : Inner → InnerTerm
inner_term parts.Plain = PlainPart
inner_term parts.Array = ArrayPart
inner_term parts.Error = ErrorPart
inner_term (parts.Script f) = ScriptPart f
inner_term (parts.Builtin f) = BuiltinPart f
inner_term (parts.Interface iface slots) = InterfacePart iface (slot_terms slots)
inner_term (parts.Platform slots pairs) = PlatformPart (slot_terms slots) (pair_terms pairs)
inner_term (parts.Space slots) = SpacePart (slot_terms slots)
inner_term (parts.PairIterator of kind next) = PairIteratorPart of kind next
inner_term (parts.ArrayIterator of next turn) = ArrayIteratorPart of next turn
inner_term (parts.Promise state) = PromisePart state

-- the kinds of inner parts; where one has slots, how many these are is a part of its kind
pub data InnerKind : Type 0 where
  APlain : InnerKind
  AnArray : InnerKind
  AnError : InnerKind
  AScript : InnerKind
  ABuiltin : InnerKind
  AnInterface : ℕ → InnerKind
  APlatform : ℕ → InnerKind
  ASpace : ℕ → InnerKind
  APairIterator : InnerKind
  AnArrayIterator : InnerKind
  APromise : InnerKind

abbrev pub kind_of : InnerTerm → InnerKind
kind_of PlainPart = APlain
kind_of ArrayPart = AnArray
kind_of ErrorPart = AnError
kind_of (ScriptPart f) = AScript
kind_of (BuiltinPart f) = ABuiltin
kind_of (InterfacePart iface slots) = AnInterface (length slots)
kind_of (PlatformPart slots pairs) = APlatform (length slots)
kind_of (SpacePart slots) = ASpace (length slots)
kind_of (PairIteratorPart of kind next) = APairIterator
kind_of (ArrayIteratorPart of next turn) = AnArrayIterator
kind_of (PromisePart state) = APromise

abbrev pub is_array_kind : InnerKind → Bool
is_array_kind AnArray = true
is_array_kind _ = false

abbrev pub is_array : InnerTerm → Bool
is_array inner = is_array_kind (kind_of inner)

-- which shape an object of a kind has: scripts, built-in functions and interface objects can be called
abbrev pub has_shape : InnerKind → Shape → Bool
has_shape AScript shapes.Callable = true
has_shape ABuiltin shapes.Callable = true
has_shape (AnInterface slots) shapes.Callable = true
has_shape (APlatform slots) (shapes.Platform iface) = true
has_shape APlain shapes.Plain = true
has_shape AnArray shapes.Plain = true
has_shape AnError shapes.Plain = true
has_shape (ASpace slots) shapes.Plain = true
has_shape APairIterator shapes.Plain = true
has_shape AnArrayIterator shapes.Plain = true
has_shape APromise shapes.Plain = true
has_shape _ _ = false
