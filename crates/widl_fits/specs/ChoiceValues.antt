-- For proofs alone. The values of enumerations, as the program keeps them.
use Rattle.std.specs.Prelude.{◌≡◌, ℕ, Bool, false, ◌&&◌, nat_le, List, [], ◌∷◌, length, Option, None, Some, bytes_eq}
use Rattle.std.specs.Borrow.{Bor}
use Rattle.std.specs.List.{list_any}
use Rattle.indexmap.specs.IndexSet.{IndexSet, contains_by}
use Rattle.widl_idl.specs.declared.enumeration.Choice.{Choice}
use Rattle.widl_fits.specs.declared.choice_values.ChoiceValues.{ChoiceValues}

-- whether a set has a text
abbrev pub has_text : {S : Type 0} → IndexSet (Bor (List ℕ)) S → List ℕ → Bool
has_text set text = contains_by (λ k. bytes_eq text k.now) set

-- whether a text is one of the values that are kept, which is no longer than the longest
abbrev pub holds : ChoiceValues → List ℕ → Bool
holds values text = nat_le (length text) values.longest && has_text values.texts text

-- whether values are there and have a text
abbrev pub is_kept : Option ChoiceValues → List ℕ → Bool
is_kept None text = false
is_kept (Some values) text = holds values text

-- what is kept has the values of each enumeration
abbrev pub KeepValues : List ChoiceValues → List Choice → Type 0
KeepValues [] [] = Unit {0}
KeepValues (kept ∷ sets) (choice ∷ choices) = ((text : List ℕ) → holds kept text ≡ list_any (λ v. bytes_eq v text) choice.values) × KeepValues sets choices
KeepValues sets choices = ⊥
