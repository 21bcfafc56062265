-- For contracts and proofs alone. The dictionaries of a line that declare members of their own.
use Rattle.std.specs.Prelude.{ℕ, zero, suc, ◌+◌, Bool, true, false, nat_lt, if◌then◌else◌, List, [], ◌∷◌, length, slice_get, Option, None, Some}
use Rattle.std.specs.Option.{option_map_or}
use Rattle.widl_idl.specs.DefinitionTerms.{DictTerm, MemberTerm}
use Rattle.widl_tables.specs.declared.level.Level.{Level}
use Rattle.widl_tables.specs.MemberOrder.{parent_in}

abbrev pub has_any : List MemberTerm → Bool
has_any [] = false
has_any (m ∷ members) = true

-- whether a dictionary declares a member
abbrev pub declares : List DictTerm → ℕ → Bool
declares dicts n = option_map_or (λ (d : DictTerm). has_any d.members) (slice_get dicts n) false

-- the nearest one, of so many of a line at most, where so many of the line come before
abbrev pub nearest : List DictTerm → ℕ → ℕ → Option ℕ → Option Level
nearest dicts zero passed n = None
nearest dicts (suc links) passed None = None
nearest dicts (suc links) passed (Some n) =
    if declares dicts n then Some (record { dictionary = n; links = passed }) else nearest dicts links (passed + 1) (parent_in dicts n)

-- that of a dictionary's line: itself, or one from which it inherits
abbrev pub level_of : List DictTerm → ℕ → Option Level
level_of dicts n = nearest dicts (length dicts) 0 (Some n)

-- the same from the dictionary before it in a line: one link more, and no line has more dictionaries than there are
abbrev pub further : ℕ → Option Level → Option Level
further count None = None
further count (Some l) = if nat_lt (l.links + 1) count then Some (record { dictionary = l.dictionary; links = l.links + 1 }) else None
