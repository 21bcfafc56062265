-- The signs of types.
use Rattle.std.specs.Prelude.{◌∷◌, Option, None, Some, List, [], if◌then◌else◌, nat_le}
use Rattle.widl_text.specs.declared.place.Place.{Place}
use Rattle.widl_idl.specs.declared.int_kind.IntKind.{IntKind}
use Rattle.widl_idl.specs.declared.int_kind.IntKind.TheVariants as int
use Rattle.widl_idl.specs.declared.text_kind.TextKind.{TextKind}
use Rattle.widl_idl.specs.declared.text_kind.TextKind.TheVariants as text
use Rattle.widl_idl.specs.declared.tree.types.AnnotatedType.{AnnotatedType}
use Rattle.widl_idl.specs.declared.tree.types.BufferKind.{BufferKind}
use Rattle.widl_idl.specs.declared.tree.types.BufferKind.TheVariants as buffer
use Rattle.widl_idl.specs.declared.tree.types.Container.{Container}
use Rattle.widl_idl.specs.declared.tree.types.Container.TheVariants as container
use Rattle.widl_idl.specs.declared.tree.types.FloatKind.{FloatKind}
use Rattle.widl_idl.specs.declared.tree.types.FloatKind.TheVariants as float
use Rattle.widl_idl.specs.declared.tree.types.WrittenType.{WrittenType}
use Rattle.widl_idl.specs.PlainTypes.{plain_of}
use Rattle.widl_idl.specs.TypeTrees.{FormTree, TypeTree, AnnotatedTree, MemberTrees, AnyForm, UndefinedForm, BooleanForm, ObjectForm, SymbolForm, BigIntForm, IntegerForm, FloatForm, TextForm, BufferForm, NamedForm, ContainerForm, RecordForm, PromiseForm, UnionForm, type_tree, annotated_tree, no_members, more_members, tree_of_type, tree_of_annotated}
use Rattle.widl_grammar.specs.declared.terminal.Terminal.{Terminal}
use Rattle.widl_grammar.specs.declared.terminal.Terminal.TheVariants as t
use Rattle.widl_syntax.specs.Nesting.{type_levels}
use Rattle.widl_syntax.specs.Signs.{Sign, Nowhere, at, word, separated, ◌⧺◌}
use Rattle.widl_syntax.specs.UnparsedNames.{identifier, extended_attributes}

abbrev pub integer_words : IntKind → List Sign
integer_words int.Byte = word t.Byte
integer_words int.Octet = word t.Octet
integer_words int.Short = word t.Short
integer_words int.UShort = word t.Unsigned ⧺ word t.Short
integer_words int.Long = word t.Long
integer_words int.ULong = word t.Unsigned ⧺ word t.Long
integer_words int.LongLong = word t.Long ⧺ word t.Long
integer_words int.ULongLong = word t.Unsigned ⧺ word t.Long ⧺ word t.Long

abbrev pub float_words : FloatKind → List Sign
float_words float.Float = word t.Float
float_words float.UnrestrictedFloat = word t.Unrestricted ⧺ word t.Float
float_words float.Double = word t.Double
float_words float.UnrestrictedDouble = word t.Unrestricted ⧺ word t.Double

abbrev pub string_terminal : TextKind → Terminal
string_terminal text.Dom = t.DomString
string_terminal text.Usv = t.UsvString
string_terminal text.Byte = t.ByteString

abbrev pub buffer_terminal : BufferKind → Terminal
buffer_terminal buffer.ArrayBuffer = t.ArrayBuffer
buffer_terminal buffer.SharedArrayBuffer = t.SharedArrayBuffer
buffer_terminal buffer.DataView = t.DataView
buffer_terminal buffer.Int8Array = t.Int8Array
buffer_terminal buffer.Int16Array = t.Int16Array
buffer_terminal buffer.Int32Array = t.Int32Array
buffer_terminal buffer.Uint8Array = t.Uint8Array
buffer_terminal buffer.Uint16Array = t.Uint16Array
buffer_terminal buffer.Uint32Array = t.Uint32Array
buffer_terminal buffer.Uint8ClampedArray = t.Uint8ClampedArray
buffer_terminal buffer.BigInt64Array = t.BigInt64Array
buffer_terminal buffer.BigUint64Array = t.BigUint64Array
buffer_terminal buffer.Float16Array = t.Float16Array
buffer_terminal buffer.Float32Array = t.Float32Array
buffer_terminal buffer.Float64Array = t.Float64Array

abbrev pub container_terminal : Container → Terminal
container_terminal container.Sequence = t.Sequence
container_terminal container.AsyncSequence = t.AsyncSequence
container_terminal container.FrozenArray = t.FrozenArray
container_terminal container.ObservableArray = t.ObservableArray

abbrev pub question_mark : Option Place → List Sign
question_mark None = []
question_mark (Some place) = at place ⧺ word t.Question

abbrev mutual
  pub form_signs : FormTree → List Sign
  form_signs AnyForm = word t.Any
  form_signs UndefinedForm = word t.Undefined
  form_signs BooleanForm = word t.Boolean
  form_signs ObjectForm = word t.Object
  form_signs SymbolForm = word t.Symbol
  form_signs BigIntForm = word t.Bigint
  form_signs (IntegerForm kind) = integer_words kind
  form_signs (FloatForm kind) = float_words kind
  form_signs (TextForm kind) = word (string_terminal kind)
  form_signs (BufferForm kind) = word (buffer_terminal kind)
  form_signs (NamedForm name) = identifier name
  form_signs (ContainerForm kind element) = word (container_terminal kind) ⧺ word t.Less ⧺ annotated_signs element ⧺ word t.Greater
  form_signs (RecordForm key value) = word t.Record ⧺ word t.Less ⧺ word (string_terminal key) ⧺ word t.Comma ⧺ annotated_signs value ⧺ word t.Greater
  form_signs (PromiseForm value) = word t.Promise ⧺ word t.Less ⧺ type_signs value ⧺ word t.Greater
  form_signs (UnionForm members) = word t.OpenParen ⧺ member_signs members ⧺ word t.CloseParen

  pub type_signs : TypeTree → List Sign
  type_signs (type_tree place form question) = at place ⧺ form_signs form ⧺ question_mark question

  pub annotated_signs : AnnotatedTree → List Sign
  annotated_signs (annotated_tree place attributes inner) = at place ⧺ extended_attributes attributes ⧺ type_signs inner

  -- members with `or` between each two
  pub member_signs : MemberTrees → List Sign
  member_signs no_members = []
  member_signs (more_members member more) = annotated_signs member ⧺ more_member_signs more

  pub more_member_signs : MemberTrees → List Sign
  more_member_signs no_members = []
  more_member_signs (more_members member more) = word t.Or ⧺ annotated_signs member ⧺ more_member_signs more

-- a type inside another one
abbrev pub inner_type : WrittenType → List Sign
inner_type ty = type_signs (tree_of_type ty)

abbrev pub inner_annotated : AnnotatedType → List Sign
inner_annotated ty = annotated_signs (tree_of_annotated ty)

-- no more tokens; and a type of more than 16 levels has no spelling
abbrev pub within_levels : TypeTree → List Sign
within_levels ty = if nat_le (type_levels (plain_of ty)) 16 then [] else Nowhere ∷ []

-- a type of a tree, inside no other
abbrev pub outer_signs : TypeTree → List Sign
outer_signs ty = type_signs ty ⧺ within_levels ty

abbrev pub written_type : WrittenType → List Sign
written_type ty = outer_signs (tree_of_type ty)

abbrev pub outer_annotated : AnnotatedTree → List Sign
outer_annotated (annotated_tree place attributes inner) = at place ⧺ extended_attributes attributes ⧺ outer_signs inner

abbrev pub annotated_type : AnnotatedType → List Sign
annotated_type ty = outer_annotated (tree_of_annotated ty)

-- a type where no extended attributes may stand: with some of its own it has no spelling
abbrev pub bare_signs : AnnotatedTree → List Sign
bare_signs (annotated_tree place [] inner) = at place ⧺ outer_signs inner
bare_signs (annotated_tree place (a ∷ more) inner) = Nowhere ∷ []

abbrev pub bare_type : AnnotatedType → List Sign
bare_type ty = bare_signs (tree_of_annotated ty)

-- the members of a union
abbrev pub union_signs : List AnnotatedType → List Sign
union_signs members = separated t.Or inner_annotated members

abbrev pub second_type : Option AnnotatedType → List Sign
second_type None = []
second_type (Some ty) = word t.Comma ⧺ annotated_type ty
