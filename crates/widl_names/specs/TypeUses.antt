-- Uses of types: what is left of a type where its typedefs are followed.
use Rattle.std.specs.Prelude.{◌≡◌, ℕ, ◌<◌, zero, suc, Bool, false, List, [], ◌++◌, length, Option, None, Some, option_map, option_and_then, slice_get, min}
use Rattle.widl_text.specs.declared.place.Place.{Place}
use Rattle.widl_idl.specs.declared.kind.Kind.{Kind}
use Rattle.widl_idl.specs.declared.kind.Kind.TheVariants as kinds
use Rattle.widl_idl.specs.declared.tree.types.Container.{Container}
use Rattle.widl_idl.specs.declared.tree.types.Container.TheVariants as container
use Rattle.widl_idl.specs.Meanings.{kind_of, meaning, meant, meant_kind}
use Rattle.widl_idl.specs.MergingRules.{is_kind}
use Rattle.widl_idl.specs.PlainTrees.{PlainDefinition, PlainKind, TypedefDefinition}
use Rattle.widl_idl.specs.PlainTypes.{PlainForm, PlainType, PlainAnnotated, PlainNamed, plain_annotated, plain_type, form_term}
use Rattle.widl_idl.specs.Resolution.{Note, WrittenType, WithoutParts, nullable_of, resolved, typedef_in}
use Rattle.widl_idl.specs.Terms.{TypeTerm, AnyType, SequenceType}
use Rattle.widl_idl.specs.WrittenTypes.{notes_of, typedefs, written_form, written_type}
use Rattle.widl_names.specs.declared.resolver.KnownUse.{KnownUse}
use Rattle.widl_names.specs.declared.resolver.Use.{Use}
use Rattle.widl_names.specs.SaidNotes.{Says}

abbrev pub question_count : Option Place → ℕ
question_count None = 0
question_count (Some question) = 1

-- a type with so many `?`s after it
abbrev pub questioned : ℕ → TypeTerm → TypeTerm
questioned zero t = t
questioned (suc count) t = nullable_of (questioned count t)

-- a number of `?`s, of which more than two mean the same as two
abbrev pub capped : ℕ → ℕ
capped n = min n 2

-- what a written type without parts stands for
abbrev pub without_parts : WrittenType → TypeTerm
without_parts (WithoutParts t) = t
without_parts t = AnyType

-- what a form means with these annotations, where typedefs lead at most so many levels down
abbrev pub form_meaning : List PlainDefinition → ℕ → List Note → PlainForm → TypeTerm
form_meaning definitions levels notes form = resolved (typedef_in (typedefs definitions) levels) notes (written_form definitions form)

-- the same of a type
abbrev pub meaning_at : List PlainDefinition → ℕ → List Note → PlainType → TypeTerm
meaning_at definitions levels notes t = resolved (typedef_in (typedefs definitions) levels) notes (written_type definitions t)

-- the same of a type with its own annotations alone
abbrev pub own_meaning : List PlainDefinition → ℕ → PlainAnnotated → TypeTerm
own_meaning definitions levels (plain_annotated at attributes inner) = meaning_at definitions levels (notes_of attributes) inner

-- what a use of a type means with these annotations
abbrev pub meaning_of_use : List PlainDefinition → List Note → Use → TypeTerm
meaning_of_use definitions notes u = questioned u.questions (form_meaning definitions u.typedefs notes (form_term u.form.now))

-- the use means what the written type does
pub record MeansWritten (u : Use) (t : PlainType) : Type 0 where
  pub same : (definitions : List PlainDefinition) (notes : List Note) → meaning_of_use definitions notes u ≡ meaning_at definitions u.typedefs notes t

abbrev pub notes_in : PlainAnnotated → List Note
notes_in (plain_annotated at attributes inner) = notes_of attributes

abbrev pub type_in : PlainAnnotated → PlainType
type_in (plain_annotated at attributes inner) = inner

abbrev pub form_in : PlainType → PlainForm
form_in (plain_type at form question) = form

-- the number of the definition that a form names, if it is a name with a meaning
abbrev pub meaning_of_form : List PlainDefinition → PlainForm → Option ℕ
meaning_of_form definitions (PlainNamed name) = meaning definitions name.text
meaning_of_form definitions form = None

-- the number that is kept with a use is that of the definition that its form names
abbrev pub IsKnown : List PlainDefinition → KnownUse → Type 0
IsKnown definitions known = known.meaning ≡ meaning_of_form definitions (form_term known.usage.form.now)

-- the kind of the definition of this number, if there is one
abbrev pub numbered_kind : List PlainDefinition → Option ℕ → Option Kind
numbered_kind definitions number = option_map kind_of (option_map (λ d. d.kind) (option_and_then (slice_get definitions) number))

abbrev pub where_left : ℕ → Bool → Bool
where_left zero test = false
where_left (suc levels) test = test

-- whether the form is the name of a typedef that may be followed
abbrev pub is_followed : List PlainDefinition → ℕ → PlainForm → Bool
is_followed definitions levels (PlainNamed name) = where_left levels (is_kind kinds.Typedef (meant_kind definitions name.text))
is_followed definitions levels form = false

-- no typedef is left to follow
abbrev pub IsLast : List PlainDefinition → Use → Type 0
IsLast definitions u = is_followed definitions u.typedefs (form_term u.form.now) ≡ false

-- the type of a typedef
abbrev pub typedef_type : Option PlainKind → Option PlainAnnotated
typedef_type (Some (TypedefDefinition t)) = Some t.ty
typedef_type kind = None

-- the type of the typedef that a definition is, if it is one
abbrev pub typedef_at : List PlainDefinition → ℕ → Option PlainAnnotated
typedef_at definitions number = typedef_type (option_map (λ d. d.kind) (slice_get definitions number))

-- the type of the typedef that a form names, if it is the name of one
abbrev pub typedef_of_form : List PlainDefinition → PlainForm → Option PlainAnnotated
typedef_of_form definitions (PlainNamed name) = typedef_type (meant definitions name.text)
typedef_of_form definitions form = None

-- the annotations of a typedef's type, and those that its form leads to
abbrev pub notes_of_typedef : (PlainForm → List Note) → Option PlainAnnotated → List Note
notes_of_typedef inner None = []
notes_of_typedef inner (Some t) = notes_in t ++ inner (form_in (type_in t))

-- the annotations of the typedefs that a form leads to, at most so many levels down
abbrev pub notes_from : List PlainDefinition → ℕ → PlainForm → List Note
notes_from definitions zero form = []
notes_from definitions (suc levels) form = notes_of_typedef (notes_from definitions levels) (typedef_of_form definitions form)

-- the annotations of all typedefs that a type leads to
abbrev pub typedef_notes : List PlainDefinition → PlainType → List Note
typedef_notes definitions t = notes_from definitions (length (typedefs definitions)) (form_in t)

-- a use of a type leads to another one: it means the same with the annotations on the way, which are those that it leads to first
pub record Leads (definitions : List PlainDefinition) (u v : Use) : Type 0 where
  pub same : (notes : List Note) → (more : List Note) × (Says u.annotations notes → Says v.annotations more) × (meaning_of_use definitions notes u ≡ meaning_of_use definitions more v) × (notes ++ notes_from definitions u.typedefs (form_term u.form.now) ≡ more ++ notes_from definitions v.typedefs (form_term v.form.now))

-- where a use of a type leads, with fewer typedefs left, or none where it is the last
abbrev pub After : List PlainDefinition → Use → Option Use → Type 0
After definitions u None = IsLast definitions u
After definitions u (Some next) = Leads definitions u next × (next.typedefs < u.typedefs)

-- what a container means: only a sequence is a type
abbrev pub container_meaning : List PlainDefinition → ℕ → Container → PlainAnnotated → TypeTerm
container_meaning definitions levels container.Sequence inner = SequenceType (own_meaning definitions levels inner)
container_meaning definitions levels container inner = AnyType
