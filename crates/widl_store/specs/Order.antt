-- For proofs alone. The entries of a property map in the order of the numbers that they were given.
use Rattle.std.specs.Prelude.{◌≡◌, ℕ, zero, suc, ◌<◌, nat_eq, if◌then◌else◌, Option, Some, None, List, [], ◌∷◌, ◌++◌, map, Contains}
use Rattle.std.specs.List.{IsDistinct}
use Rattle.std.specs.Map.{keys_of}
use Rattle.widl_store.specs.declared.property.Prop.{Prop}
use Rattle.widl_store.specs.Created.{Created}
use Rattle.widl_store.specs.Objects.{same_key}
use Rattle.widl_text.specs.declared.key.Key.{Key}

abbrev pub Entry : Type 0
Entry = Key × Created

-- the first entry of a number
abbrev pub at : ℕ → List Entry → Option Entry
at n [] = None
at n (e ∷ es) = if nat_eq e.1.number n then Some e else at n es

abbrev pub listed : Option Entry → List Entry
listed None = []
listed (Some e) = e ∷ []

-- the entries of all numbers below this, in their order
unfoldable pub gathered : ℕ → List Entry → List Entry
gathered zero es = []
gathered (suc n) es = gathered n es ++ listed (at n es)

abbrev pub shown : Entry → Key × Prop
shown e = (e.0, e.1.prop)

-- keys and properties in the order of creation
abbrev pub in_order : ℕ → List Entry → List (Key × Prop)
in_order n es = map shown (gathered n es)

-- each number is below the next one, each number and each key stands once
pub record Numbered (n : ℕ) (es : List Entry) : Type 0 where
  pub below : (e : Entry) → Contains es e → e.1.number < n
  pub once : (a b : Entry) → Contains es a → Contains es b → a.1.number ≡ b.1.number → a ≡ b
  pub keys : IsDistinct same_key (keys_of es)

-- an entry whose key is this one, with another property
abbrev pub changed : Key → Prop → Entry → Entry
changed key prop e = if same_key key e.0 then (e.0, record { number = e.1.number; prop = prop }) else e
