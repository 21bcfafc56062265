-- For proofs alone. Texts and names that are known, as the program keeps them.
use Rattle.std.specs.Prelude.{if◌then◌else◌, ℕ, Bool, List, bytes_eq}
use Rattle.std.specs.Borrow.{Bor}
use Rattle.indexmap.specs.IndexSet.{IndexSet, contains_by}
use Rattle.widl_names.specs.declared.operation_names.OperationNames.{OperationNames}

-- whether a set has a text
abbrev pub has_text : {S : Type 0} → IndexSet (Bor (List ℕ)) S → List ℕ → Bool
has_text set text = contains_by (λ k. bytes_eq text k.now) set

-- whether a name is known, of a static operation or of another
abbrev pub has_name : OperationNames → List ℕ → Bool → Bool
has_name names text static = if static then has_text names.of_interface_object text else has_text names.regular text
