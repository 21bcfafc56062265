-- What the program keeps of a list of annotations.
use Rattle.std.specs.Prelude.{◌≡◌, true, false, List, Option, None, Some, option_map}
use Rattle.widl_text.specs.declared.place.Place.{Place}
use Rattle.widl_idl.specs.declared.int_kind.Mode.TheVariants as modes
use Rattle.widl_idl.specs.declared.violation.Violation.{Violation}
use Rattle.widl_idl.specs.First.{FirstWhere, Somewhere, violation_at}
use Rattle.widl_idl.specs.MergingRules.{IsAt}
use Rattle.widl_idl.specs.Resolution.{Annotation, ClampTo, EnforceRange, LegacyNullToEmptyString, Note, ModeNote, first_mode, has_null_to_empty}
use Rattle.widl_names.specs.declared.annotations.Annotations.{Annotations}
use Rattle.widl_names.specs.declared.annotations.ModeAnnotation.{ModeAnnotation}

abbrev pub mode_note_of : ModeAnnotation → ModeNote
mode_note_of m = record { mode = m.mode; at = m.at }

-- the annotation that sets a mode, if there is one, as definitions see it
abbrev pub mode_said : Option ModeAnnotation → Option ModeNote
mode_said said = option_map mode_note_of said

-- an annotation is this one: at its name
abbrev pub NotedAt : Annotation → Note → Violation → Type 0
NotedAt annotation n s = (n.annotation ≡ annotation) × IsAt n.at s

-- the first of these annotations stands at the place, or there is none
abbrev pub StandsFirst : Annotation → List Note → Option Place → Type 0
StandsFirst annotation notes at = FirstWhere (Somewhere (NotedAt annotation) notes) (option_map violation_at at)

-- what is kept is what the list of annotations says
pub record Says (annotations : Annotations) (notes : List Note) : Type 0 where
  pub mode : mode_said annotations.mode ≡ first_mode notes
  pub clamp : StandsFirst ClampTo notes annotations.clamp
  pub enforce : StandsFirst EnforceRange notes annotations.enforce
  pub null : annotations.null_to_empty ≡ has_null_to_empty notes

-- what one extended attribute says, which is this annotation or none
abbrev pub said_by : Option Annotation → Place → Annotations
said_by None at = record { mode = None; clamp = None; enforce = None; null_to_empty = false }
said_by (Some ClampTo) at = record { mode = Some (record { mode = modes.Clamp; at = at }); clamp = Some at; enforce = None; null_to_empty = false }
said_by (Some EnforceRange) at = record { mode = Some (record { mode = modes.Enforce; at = at }); clamp = None; enforce = Some at; null_to_empty = false }
said_by (Some LegacyNullToEmptyString) at = record { mode = None; clamp = None; enforce = None; null_to_empty = true }
