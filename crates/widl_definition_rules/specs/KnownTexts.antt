-- For proofs alone. Items whose text an earlier one has.
use Rattle.std.specs.Prelude.{◌≡◌, ℕ, true, List, bytes_eq}
use Rattle.std.specs.List.{list_any}
use Rattle.widl_text.specs.declared.place.Place.{Place}
use Rattle.widl_idl.specs.declared.violation.Violation.{Violation}
use Rattle.widl_idl.specs.MergingRules.{IsAt}

-- an earlier item has the text of this one: at the place of this one
abbrev pub RepeatsText : {X : Type 0} → (X → List ℕ) → (X → Place) → List X → X → Violation → Type 0
RepeatsText text at before x s = (list_any (λ y. bytes_eq (text y) (text x)) before ≡ true) × IsAt (at x) s
