-- What the types of a tree mean among the definitions of a set of files.
-- Source: Web IDL, "Types", "Typedefs" and "Annotated types".
use Rattle.std.specs.Prelude.{ℕ, Bool, false, ◌&&◌, not, List, [], ◌++◌, length, take, filter, filter_map, Option, None, Some, if◌then◌else◌, option_map, codes, bytes_eq}
use Rattle.widl_text.specs.declared.place.Place.{Place}
use Rattle.widl_idl.specs.declared.int_kind.Mode.TheVariants.{Wrap}
use Rattle.widl_idl.specs.declared.kind.Kind.{Kind}
use Rattle.widl_idl.specs.declared.kind.Kind.TheVariants as kinds
use Rattle.widl_idl.specs.declared.tree.types.Container.{Container}
use Rattle.widl_idl.specs.declared.tree.types.Container.TheVariants as container
use Rattle.widl_idl.specs.Meanings.{kind_of, is_partial, same_kind, meaning, meant_kind}
use Rattle.widl_idl.specs.Resolution.{Annotation, ClampTo, EnforceRange, LegacyNullToEmptyString, Note, WrittenType, WrittenMembers, WithoutParts, TypedefName, SequenceOf, RecordOf, PromiseOf, NullableOf, UnionOf, Typedef, resolve}
use Rattle.widl_idl.specs.Resolution as resolution
use Rattle.widl_idl.specs.Terms.{TypeTerm, AnyType, UndefinedType, BooleanType, IntegerType, StringType, EnumerationType, InterfaceType, CallbackFunctionType, CallbackInterfaceType, DictionaryType, ObjectType}
use Rattle.widl_idl.specs.PlainTypes.{PlainName, PlainAttribute, PlainForm, PlainType, PlainAnnotated, PlainMembers, PlainUndefined, PlainBoolean, PlainObject, PlainInteger, PlainText, PlainNamed, PlainContainer, PlainRecord, PlainPromise, PlainUnion, plain_type, plain_annotated, no_plain, more_plain}
use Rattle.widl_idl.specs.PlainTrees.{PlainDefinition, PlainKind, TypedefDefinition}

-- the annotation of this name
abbrev pub annotation_of : List ℕ → Option Annotation
annotation_of text =
    if bytes_eq text (codes "Clamp") then Some ClampTo
    else if bytes_eq text (codes "EnforceRange") then Some EnforceRange
    else if bytes_eq text (codes "LegacyNullToEmptyString") then Some LegacyNullToEmptyString else None

abbrev pub note_of : PlainAttribute → Option Note
note_of a = option_map (λ annotation. record { annotation = annotation; at = a.name.at }) (annotation_of a.name.text)

-- the annotations among extended attributes
abbrev pub notes_of : List PlainAttribute → List Note
notes_of attributes = filter_map note_of attributes

-- whether a definition is a main one of the kind
abbrev pub is_main_of : Kind → PlainDefinition → Bool
is_main_of kind d = same_kind kind (kind_of d.kind) && not (is_partial d.kind)

-- the number of a definition among the main definitions of its kind
abbrev pub number_among : List PlainDefinition → Kind → ℕ → ℕ
number_among definitions kind number = length (filter (is_main_of kind) (take number definitions))

-- the type that a definition of the kind stands for by its number; what is no type stands as `any`
abbrev pub type_of_kind : Kind → ℕ → WrittenType
type_of_kind kinds.Typedef n = TypedefName n
type_of_kind kinds.Interface n = WithoutParts (InterfaceType n)
type_of_kind kinds.Dictionary n = WithoutParts (DictionaryType n)
type_of_kind kinds.Enumeration n = WithoutParts (EnumerationType n)
type_of_kind kinds.CallbackFunction n = WithoutParts (CallbackFunctionType n)
type_of_kind kinds.CallbackInterface n = WithoutParts (CallbackInterfaceType n)
type_of_kind kind n = WithoutParts AnyType

abbrev pub type_of_meaning : List PlainDefinition → Option ℕ → Option Kind → WrittenType
type_of_meaning definitions (Some number) (Some kind) = type_of_kind kind (number_among definitions kind number)
type_of_meaning definitions number kind = WithoutParts AnyType

-- the type that a name in a type stands for
abbrev pub named_type : List PlainDefinition → PlainName → WrittenType
named_type definitions name = type_of_meaning definitions (meaning definitions name.text) (meant_kind definitions name.text)

abbrev pub container_of : Container → List Note → WrittenType → WrittenType
container_of container.Sequence notes inner = SequenceOf notes inner
container_of kind notes inner = WithoutParts AnyType

abbrev pub nullable_if : Option Place → WrittenType → WrittenType
nullable_if None t = t
nullable_if (Some question) t = NullableOf t

module _ (definitions : List PlainDefinition) where
  abbrev mutual
    -- the type that is written in a tree, in which names are those of definitions by their numbers; a form that the profile leaves unsupported stands as `any`
    pub written_form : PlainForm → WrittenType
    written_form PlainUndefined = WithoutParts UndefinedType
    written_form PlainBoolean = WithoutParts BooleanType
    written_form PlainObject = WithoutParts ObjectType
    written_form (PlainInteger kind) = WithoutParts (IntegerType kind Wrap)
    written_form (PlainText kind) = WithoutParts (StringType kind false)
    written_form (PlainNamed name) = named_type definitions name
    written_form (PlainContainer container (plain_annotated at attributes inner)) = container_of container (notes_of attributes) (written_type inner)
    written_form (PlainRecord key (plain_annotated at attributes inner)) = RecordOf key (notes_of attributes) (written_type inner)
    written_form (PlainPromise inner) = PromiseOf (written_type inner)
    written_form (PlainUnion members) = UnionOf (written_members members)
    written_form form = WithoutParts AnyType

    pub written_type : PlainType → WrittenType
    written_type (plain_type at form question) = nullable_if question (written_form form)

    pub written_members : PlainMembers → WrittenMembers
    written_members no_plain = resolution.no_members
    written_members (more_plain (plain_annotated at attributes inner) more) = resolution.more_members (notes_of attributes) (written_type inner) (written_members more)

  abbrev pub typedef_in_tree : PlainAnnotated → Typedef
  typedef_in_tree (plain_annotated at attributes inner) = record { notes = notes_of attributes; written = written_type inner }

  abbrev pub typedef_if : PlainKind → Option Typedef
  typedef_if (TypedefDefinition d) = Some (typedef_in_tree d.ty)
  typedef_if kind = None

  -- the typedefs by their numbers
  abbrev pub typedefs : List Typedef
  typedefs = filter_map (λ (d : PlainDefinition). typedef_if d.kind) definitions

  -- what a type of a tree means, with these annotations before it
  abbrev pub meaning_of_type : List Note → PlainType → TypeTerm
  meaning_of_type notes t = resolve typedefs notes (written_type t)

  abbrev pub meaning_of_annotated : List Note → PlainAnnotated → TypeTerm
  meaning_of_annotated notes (plain_annotated at attributes inner) = meaning_of_type (notes ++ notes_of attributes) inner

  -- what a type without annotations means
  abbrev pub meaning_alone : PlainType → TypeTerm
  meaning_alone t = meaning_of_type [] t

  -- what the type of an argument, an attribute or a dictionary member means, whose own extended attributes are annotations of its type too
  abbrev pub meaning_with : List PlainAttribute → PlainAnnotated → TypeTerm
  meaning_with attributes t = meaning_of_annotated (notes_of attributes) t
