-- For proofs alone. The numbers and the names of overloads.
use Rattle.std.specs.Prelude.{◌≡◌, ℕ, List, map, slice_get, Option, None, MatchOption, option_map}
use Rattle.widl_text.specs.declared.place.Place.{Place}
use Rattle.widl_idl.specs.declared.violation.Violation.{Violation}
use Rattle.widl_idl.specs.DefinitionTerms.{SigTerm}
use Rattle.widl_overload.specs.declared.span.Span.{Span}
use Rattle.widl_overload.specs.rules.OverloadRules.{AtOverloads}
use Rattle.widl_overload.specs.rules.OverloadViolations.{IsOnly}
use Rattle.widl_overload.specs.sets.Sets.{TupleTerm}
use Rattle.widl_overload.specs.sets.Spans.{spans_hold, true_places}

-- the number of the overload that a tuple is of
abbrev pub number_of : TupleTerm → ℕ
number_of t = t.overload

-- the place of the name of the overload with this number
abbrev pub place_of_number : List SigTerm → ℕ → Option Place
place_of_number sigs number = option_map (λ (s : SigTerm). s.at) (slice_get sigs number)

-- the violation at the names of overloads with these numbers, whatever their tuples
abbrev pub AreNamed : List SigTerm → List ℕ → Option Violation → Type 0
AreNamed sigs numbers found = (tuples : List TupleTerm) → numbers ≡ map number_of tuples → IsOnly (AtOverloads sigs tuples) found

-- the violation at the names of the overloads that have tuples of a length, if there is such a length
abbrev pub AreNamedAt : List SigTerm → List Span → Option ℕ → Option Violation → Type 0
AreNamedAt sigs spans size found = MatchOption size (found ≡ None) (λ m. AreNamed sigs (true_places 0 (spans_hold m spans)) found)
