-- For proofs alone. Annotations that don't apply to a type without its `?`s.
use Rattle.std.specs.Prelude.{◌≡◌, true}
use Rattle.widl_idl.specs.declared.violation.Violation.{Violation}
use Rattle.widl_idl.specs.MergingRules.{IsAt}
use Rattle.widl_idl.specs.PlainTypes.{PlainAttribute}
use Rattle.widl_idl.specs.Terms.{TypeTerm}
use Rattle.widl_idl.specs.WrittenTypes.{annotation_of}
use Rattle.widl_overload.specs.rules.TypeRules.{is_misplaced}

-- an extended attribute is an annotation that doesn't apply to the type: at its name
abbrev pub IsMisplacedOn : TypeTerm → PlainAttribute → Violation → Type 0
IsMisplacedOn t a s = (is_misplaced t (annotation_of a.name.text) ≡ true) × IsAt a.name.at s
