-- For proofs alone. Depths of types as the program keeps them: exact up to the limit of 16, and 17 for all that nest deeper.
use Rattle.std.specs.Prelude.{◌≡◌, ℕ, ◌+◌, ◌<◌, ◌≤◌, min, nat_lt, Bool, false, List, length, slice_get, slice_index_or, Option, None, Some, option_map, option_and_then}
use Rattle.widl_idl.specs.Meanings.{meaning, meant}
use Rattle.widl_idl.specs.Nesting.{annotated_depth, meant_depth, named_depth}
use Rattle.widl_idl.specs.PlainTypes.{PlainName}
use Rattle.widl_idl.specs.PlainTrees.{PlainDefinition}

abbrev pub capped : Option ℕ → Option ℕ
capped depth = option_map (min 17) depth

-- whether a depth is known and passes the limit
abbrev pub is_deep : Option ℕ → Bool
is_deep None = false
is_deep (Some depth) = nat_lt 16 depth

-- whether a flag is there and set
abbrev pub is_flagged : Option Bool → Bool
is_flagged None = false
is_flagged (Some flag) = flag

-- each depth in the table is at most 17
pub record AreCapped (depths : List (Option ℕ)) : Type 0 where
  pub same : (number : ℕ) → capped (slice_index_or depths number None) ≡ slice_index_or depths number None

-- the depth that the table has at a number
abbrev pub kept_depth : List (Option ℕ) → Option ℕ → Option ℕ
kept_depth depths number = option_and_then (λ n. slice_index_or depths n None) number

-- the depth of the type that a name means, where the table has those of typedefs by their numbers
unfoldable pub table_depth : List PlainDefinition → List (Option ℕ) → PlainName → Option ℕ
table_depth definitions depths name = meant_depth (λ ty. kept_depth depths (meaning definitions name.text)) (meant definitions name.text)

-- the depth of the type that the definition of a number is, where `named` tells that of a name
abbrev pub number_depth : List PlainDefinition → (PlainName → Option ℕ) → ℕ → Option ℕ
number_depth definitions named number = meant_depth (annotated_depth named) (option_map (λ d. d.kind) (slice_get definitions number))

-- the table tells the depth of each name's type
pub record TellsDepths (definitions : List PlainDefinition) (depths : List (Option ℕ)) : Type 0 where
  pub tells : (name : PlainName) → capped (named_depth definitions (length definitions + 1) name) ≡ table_depth definitions depths name

-- of the first definitions of an order the table has the depth at which more levels change nothing
pub record AreSteady (definitions : List PlainDefinition) (order : List ℕ) (count : ℕ) (depths : List (Option ℕ)) : Type 0 where
  pub steady : (place x : ℕ) → place < count → slice_get order place ≡ Some x → (levels : ℕ) → count ≤ levels → capped (number_depth definitions (named_depth definitions levels) x) ≡ slice_index_or depths x None
