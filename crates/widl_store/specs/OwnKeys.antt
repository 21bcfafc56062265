-- The own keys of an object.
-- Source: ECMA-262, OrdinaryOwnPropertyKeys.
use Rattle.std.specs.Prelude.{◌≡◌, ℕ, Bool, true, false, not, is_some, unwrap_or, List, [], ◌++◌, filter, slice_get}
use Rattle.std.specs.List.Sorted.{IsPermutation, IsNonDecreasingBy}
use Rattle.std.specs.Map.{keys_of}
use Rattle.std.specs.Option.{option_map_or}
use Rattle.std.specs.List.{IsDistinct}
use Rattle.widl_store.specs.Objects.{Obj, same_key}
use Rattle.widl_text.specs.declared.key.Key.{Key}
use Rattle.widl_text.specs.declared.key.Key.TheVariants.{Name, Sym}
use Rattle.widl_text.specs.Index.{index_of}

abbrev pub is_index : Key → Bool
is_index key = is_some (index_of key)

abbrev pub is_name : Key → Bool
is_name (Name text) = not (is_index (Name text))
is_name (Sym id) = false

abbrev pub is_symbol : Key → Bool
is_symbol (Name text) = false
is_symbol (Sym id) = true

-- the index that a key is
abbrev pub number_of : Key → ℕ
number_of key = unwrap_or (index_of key) 0

-- the keys that are array indices, by their numbers; the names that are none; the symbols. Names and symbols
-- stand as they were created (so the length of an array is the first name), and no key stands twice
pub record OwnKeys (keys result : List Key) : Type 0 where
  pub indices : List Key
  pub is : result ≡ indices ++ (filter is_name keys ++ filter is_symbol keys)
  pub all : IsPermutation (filter is_index keys) indices
  pub ascending : IsNonDecreasingBy number_of indices
  pub once : IsDistinct same_key result

-- the keys of an object in order of creation
abbrev pub keys_at : List Obj → ℕ → List Key
keys_at objects id = option_map_or (λ o. keys_of o.props) (slice_get objects id) []
