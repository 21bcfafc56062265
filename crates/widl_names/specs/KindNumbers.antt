-- The numbers of definitions among those of their kind, as the program keeps them.
use Rattle.std.specs.Prelude.{◌≡◌, ℕ, ◌<◌, List, length, filter, Some, option_map, slice_get}
use Rattle.widl_idl.specs.declared.kind.Kind.{Kind}
use Rattle.widl_idl.specs.declared.kind.Kind.TheVariants as kinds
use Rattle.widl_idl.specs.Meanings.{kind_of}
use Rattle.widl_idl.specs.PlainTrees.{PlainDefinition, PlainKind}
use Rattle.widl_idl.specs.WrittenTypes.{is_main_of, number_among}
use Rattle.widl_names.specs.declared.kind_numbers.Counts.{Counts}

abbrev pub count_of : Counts → Kind → ℕ
count_of counts kinds.CallbackFunction = counts.callback_functions
count_of counts kinds.CallbackInterface = counts.callback_interfaces
count_of counts kinds.Interface = counts.interfaces
count_of counts kinds.Mixin = counts.mixins
count_of counts kinds.Namespace = counts.namespaces
count_of counts kinds.Dictionary = counts.dictionaries
count_of counts kinds.Enumeration = counts.enumerations
count_of counts kinds.Typedef = counts.typedefs
count_of counts kinds.Includes = counts.includes

-- with another count of the kind
abbrev pub with_count : Counts → Kind → ℕ → Counts
with_count counts kinds.CallbackFunction n = record counts { callback_functions = n }
with_count counts kinds.CallbackInterface n = record counts { callback_interfaces = n }
with_count counts kinds.Interface n = record counts { interfaces = n }
with_count counts kinds.Mixin n = record counts { mixins = n }
with_count counts kinds.Namespace n = record counts { namespaces = n }
with_count counts kinds.Dictionary n = record counts { dictionaries = n }
with_count counts kinds.Enumeration n = record counts { enumerations = n }
with_count counts kinds.Typedef n = record counts { typedefs = n }
with_count counts kinds.Includes n = record counts { includes = n }

-- the counts of the main definitions of each kind
pub record AreCounts (definitions : List PlainDefinition) (counts : Counts) : Type 0 where
  pub each : (kind : Kind) → count_of counts kind ≡ length (filter (is_main_of kind) definitions)

-- of the first definitions each has its number among the main definitions of its kind
pub record AreFirstNumbers (definitions : List PlainDefinition) (count : ℕ) (numbers : List ℕ) : Type 0 where
  pub size : length numbers ≡ count
  pub each : (number : ℕ) (kind : PlainKind) → number < count → option_map (λ d. d.kind) (slice_get definitions number) ≡ Some kind → slice_get numbers number ≡ Some (number_among definitions (kind_of kind) number)

-- the same of all definitions
abbrev pub AreNumbers : List PlainDefinition → List ℕ → Type 0
AreNumbers definitions numbers = AreFirstNumbers definitions (length definitions) numbers
