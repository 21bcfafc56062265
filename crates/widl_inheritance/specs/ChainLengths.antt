-- For proofs alone. The lengths of chains of dictionaries, up to one past the limit.
use Rattle.std.specs.Prelude.{◌≡◌, ◌↔◌, ℕ, ◌+◌, ◌<◌, ◌≤◌, List, [], ◌∷◌, length, max, min, nat_lt, slice_get, slice_index, Some, if◌then◌else◌}
use Rattle.widl_idl.specs.DefinitionTerms.{DictTerm}
use Rattle.widl_overload.specs.rules.Dictionaries.{BeginsChain, HoldsIn}

-- the greatest of the lengths of nodes, 0 where there are none
abbrev pub greatest_length : List ℕ → List ℕ → ℕ
greatest_length lengths [] = 0
greatest_length lengths (node ∷ nodes) = max (slice_index lengths node) (greatest_length lengths nodes)

-- the length of a node after which the greatest length is this one: one of `count` dictionaries stands in the chain itself
abbrev pub node_length : ℕ → ℕ → ℕ → ℕ
node_length count node after = min 257 (if nat_lt node count then after + 1 else after)

-- the table tells with which dictionaries a chain of 257 begins
pub record TellsLengths (dicts : List DictTerm) (lengths : List ℕ) : Type 0 where
  pub size : length dicts ≤ length lengths
  pub tells : (n : ℕ) → n < length dicts → (256 < slice_index lengths n) ↔ BeginsChain dicts 257 n

-- a chain of so many dictionaries begins at a node: with the dictionary itself, or with one in the type of a member; one of none begins at each
pub data BeginsAt (dicts : List DictTerm) (count node : ℕ) : Type 0 where
  nothing : count ≡ 0 → BeginsAt dicts count node
  begun : node < length dicts → BeginsChain dicts count node → BeginsAt dicts count node
  inside : (n m : ℕ) → node ≡ length dicts + n → HoldsIn dicts n m → BeginsChain dicts count m → BeginsAt dicts count node

-- the table has the lengths of the first nodes of an order
pub record AreMeasured (dicts : List DictTerm) (order : List ℕ) (upto : ℕ) (lengths : List ℕ) : Type 0 where
  pub measured : (place x : ℕ) → place < upto → slice_get order place ≡ Some x → (count : ℕ) → count ≤ 257 → BeginsAt dicts count x ↔ (count ≤ slice_index lengths x)
