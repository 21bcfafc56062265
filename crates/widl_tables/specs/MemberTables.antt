-- For proofs alone. The members of dictionaries in order and their levels, as the program keeps them.
use Rattle.std.specs.Prelude.{◌≡◌, ℕ, zero, suc, ◌+◌, ◌<◌, List, [], ◌∷◌, length, map, slice_get, Option, Some}
use Rattle.std.specs.List.{All}
use Rattle.std.specs.Option.{option_map_or}
use Rattle.widl_idl.specs.declared.dictionary.Dict.{Dict}
use Rattle.widl_idl.specs.DefinitionTerms.{DictTerm, MemberTerm}
use Rattle.widl_tables.specs.declared.level.Known.{Known}
use Rattle.widl_tables.specs.declared.level.Known.TheVariants as known
use Rattle.widl_tables.specs.declared.level.Level.{Level}
use Rattle.widl_tables.specs.declared.member_orders.MemberOrder.{MemberOrder}
use Rattle.widl_tables.specs.Levels.{level_of}
use Rattle.widl_tables.specs.MemberOrder.{DeclaredMember, by_name, own_order}

-- the dictionaries, and the members of each, have numbers of 32 bits
pub record AreFew (dicts : List Dict) : Type 0 where
  pub count : length dicts < 4294967296
  pub members : All (λ (d : Dict). length d.members < 4294967296) dicts

-- what is known of levels is so
abbrev pub AreKnown : List DictTerm → List Known → Type 0
AreKnown dicts entries = (n : ℕ) (l : Option Level) → slice_get entries n ≡ Some (known.Level l) → l ≡ level_of dicts n

-- the name of a member; that of one that isn't there is empty
abbrev pub name_in : List MemberTerm → ℕ → List ℕ
name_in members n = option_map_or (λ (m : MemberTerm). m.name) (slice_get members n) []

-- the numbers of members in the order of their names
abbrev pub numbers_by_name : List DeclaredMember → List ℕ
numbers_by_name members = map (λ (m : DeclaredMember). m.number) (by_name members)

pub record IsOrderOf (dicts : List DictTerm) (n : ℕ) (order : MemberOrder) : Type 0 where
  pub own : order.own.items ≡ own_order dicts n
  pub level : order.level ≡ level_of dicts n

-- one for each of so many dictionaries
pub record AreOrdersOf (dicts : List DictTerm) (number : ℕ) (orders : List MemberOrder) : Type 0 where
  pub count : length orders ≡ number
  pub each : (n : ℕ) (order : MemberOrder) → slice_get orders n ≡ Some order → IsOrderOf dicts n order

-- one for each dictionary
abbrev pub AreOrders : List DictTerm → List MemberOrder → Type 0
AreOrders dicts orders = AreOrdersOf dicts (length dicts) orders

-- so many numbers from one on
abbrev pub numbers_from : ℕ → ℕ → List ℕ
numbers_from n zero = []
numbers_from n (suc count) = n ∷ numbers_from (n + 1) count
