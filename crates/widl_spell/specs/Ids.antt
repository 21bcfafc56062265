-- The order of the ids of interfaces.
use Rattle.std.specs.Prelude.{ℕ, ◌+◌, ◌&&◌, ◌++◌, Bool, true, not, List, [], ◌∷◌, length, map, nat_eq, slice_get, zero, suc, Option, None, Some, option_and_then, if◌then◌else◌}
use Rattle.std.specs.List.{list_any}
use Rattle.widl_idl.specs.DefinitionTerms.{IfaceTerm}

-- the parent of each interface
abbrev pub parents_of : List IfaceTerm → List (Option ℕ)
parents_of ifaces = map (λ i. i.parent) ifaces

abbrev pub parent_at : List (Option ℕ) → ℕ → Option ℕ
parent_at parents n = option_and_then (λ parent. parent) (slice_get parents n)

-- whether an interface has an id
abbrev pub has_id : List ℕ → ℕ → Bool
has_id ids n = list_any (nat_eq n) ids

-- whether a parent, if there is one, has an id
abbrev pub has_id_or_is_none : List ℕ → Option ℕ → Bool
has_id_or_is_none ids None = true
has_id_or_is_none ids (Some parent) = has_id ids parent

-- whether an interface may have the next id: it has none yet, and its parent, if it has one, has its own
abbrev pub may_be_next : List (Option ℕ) → List ℕ → ℕ → Bool
may_be_next parents ids n = not (has_id ids n) && has_id_or_is_none ids (parent_at parents n)

-- the first of so many numbers, from one on, that passes a test
abbrev pub first_from : (ℕ → Bool) → ℕ → ℕ → Option ℕ
first_from test n zero = None
first_from test n (suc count) = if test n then Some n else first_from test (n + 1) count

-- the interface with the next id: the first in list order that may have it
abbrev pub next_of : List (Option ℕ) → List ℕ → Option ℕ
next_of parents ids = first_from (may_be_next parents ids) 0 (length parents)

abbrev pub followed_by : List ℕ → Option ℕ → List ℕ
followed_by ids None = ids
followed_by ids (Some n) = ids ++ n ∷ []

-- the interfaces with the first so many ids, in the order of their ids
abbrev pub first_ids : List (Option ℕ) → ℕ → List ℕ
first_ids parents zero = []
first_ids parents (suc count) = followed_by (first_ids parents count) (next_of parents (first_ids parents count))

-- the interfaces in the order of their ids; one on a circle of parents or after it has none
unfoldable pub id_order : List (Option ℕ) → List ℕ
id_order parents = first_ids parents (length parents)
