-- The values of enumerations.
-- Source: Web IDL, Enumerations.
use Rattle.std.specs.Prelude.{◌≡◌, ◌≢◌, ℕ, ◌^◌, ◌<◌, List, Option, Some, None, nat_lt, if◌then◌else◌, slice_get, option_and_then}
use Rattle.std.specs.List.{position_from}
use Rattle.std.specs.Str.{bytes_eq}
use Rattle.widl_idl.specs.declared.enumeration.Choice.{Choice}

-- the text stands at this place of the list, and at none before it
pub record IsFirstPlace (texts : List (List ℕ)) (text : List ℕ) (place : ℕ) : Type 0 where
  pub here : slice_get texts place ≡ Some text
  pub before : (k : ℕ) → k < place → slice_get texts k ≢ Some text

-- the enumeration of this number has the text first at this place
pub record HasValueAt (choices : List Choice) (number : ℕ) (text : List ℕ) (place : ℕ) : Type 0 where
  pub choice : Choice
  pub is_choice : slice_get choices number ≡ Some choice
  pub first : IsFirstPlace choice.values text place

-- the same, computed: the first place of a text in a list of texts, or none
abbrev pub place_of_text : List (List ℕ) → List ℕ → Option ℕ
place_of_text texts text = position_from (λ value. bytes_eq value text) 0 texts

-- the place where it is told in 32 bits
abbrev pub told_place : ℕ → Option ℕ
told_place place = if nat_lt place (2 ^ 32) then Some place else None

abbrev pub value_place : List Choice → ℕ → List ℕ → Option ℕ
value_place choices number text = option_and_then (λ choice. option_and_then told_place (place_of_text choice.values text)) (slice_get choices number)
