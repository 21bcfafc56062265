-- Where chains of typedefs end, as the program keeps it.
use Rattle.std.specs.Prelude.{◌≡◌, ℕ, ◌+◌, ◌<◌, ◌^◌, ◌-◌, List, ◌++◌, Option, None, Some, slice_get}
use Rattle.widl_idl.specs.PlainTrees.{PlainDefinition}
use Rattle.widl_idl.specs.PlainTypes.{PlainAnnotated, form_term}
use Rattle.widl_idl.specs.Resolution.{Note}
use Rattle.widl_names.specs.declared.resolver.Use.{Use}
use Rattle.widl_names.specs.declared.typedef_ends.ChainEnd.{ChainEnd}
use Rattle.widl_names.specs.SaidNotes.{Says}
use Rattle.widl_names.specs.TypeUses.{capped, form_in, form_meaning, meaning_at, notes_from, notes_in, questioned, type_in, typedef_at}

-- a type means what the end of its chain does, with the annotations and the `?`s of the chain, where typedefs lead fewer levels down by those that are passed; the annotations of the typedefs are those of the chain, and then those that its end leads to
pub record EndsAt (definitions : List PlainDefinition) (t : PlainAnnotated) (end : ChainEnd) : Type 0 where
  pub notes : List Note
  pub said : Says end.annotations notes
  pub same : (levels : ℕ) (before : List Note) → meaning_at definitions (levels + end.passed) (before ++ notes_in t) (type_in t) ≡ questioned end.questions (form_meaning definitions levels (before ++ notes) (form_term end.form.now))
  pub gathered : (levels : ℕ) → notes_in t ++ notes_from definitions (levels + end.passed) (form_in (type_in t)) ≡ notes ++ notes_from definitions levels (form_term end.form.now)

-- the end of the chain that begins with the type, if there is one
abbrev pub IsEndOf : List PlainDefinition → Option PlainAnnotated → ChainEnd → Type 0
IsEndOf definitions None end = ⊥
IsEndOf definitions (Some t) end = EndsAt definitions t end

-- what is kept under each number is the end of the chain of the typedef with that number
pub record AreEnds (definitions : List PlainDefinition) (ends : List (Option ChainEnd)) : Type 0 where
  pub each : (number : ℕ) (end : ChainEnd) → slice_get ends number ≡ Some (Some end) → IsEndOf definitions (typedef_at definitions number) end

-- the end of a chain that may be passed to, or none where the form is no typedef's name
abbrev pub IsNext : List PlainDefinition → ℕ → Option PlainAnnotated → Option ChainEnd → Type 0
IsNext definitions typedefs t None = t ≡ None
IsNext definitions typedefs t (Some end) = IsEndOf definitions t end × (end.passed < typedefs)

-- the count of the chain can grow by one
abbrev pub CanGrow : ChainEnd → Type 0
CanGrow end = end.passed < 2 ^ 32 - 1

-- the next use is the end of a chain, after the annotations and the `?`s of the first use
pub record GoesTo (u : Use) (end : ChainEnd) (next : Use) : Type 0 where
  pub fewer : u.typedefs ≡ next.typedefs + end.passed + 1
  pub said : (notes more : List Note) → Says u.annotations notes → Says end.annotations more → Says next.annotations (notes ++ more)
  pub questions : next.questions ≡ capped (u.questions + end.questions)
  pub form : next.form ≡ end.form
