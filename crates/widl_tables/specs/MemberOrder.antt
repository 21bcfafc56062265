-- The members of a dictionary in the order in which they are converted.
-- Source: Web IDL, "Dictionaries" (inherited dictionaries) and "Dictionary types" (converting to a dictionary, steps 3 and 4).
use Rattle.std.specs.Prelude.{ℕ, zero, suc, ◌+◌, Bool, if◌then◌else◌, List, [], ◌∷◌, ◌++◌, length, map, flat_map, slice_get, Option, None, Some}
use Rattle.std.specs.Cmp.Lexicographic.{slice_cmp}
use Rattle.std.specs.Option.{option_and_then, option_map_or}
use Rattle.std.specs.Ordering.{is_gt, nat_cmp}
use Rattle.widl_idl.specs.DefinitionTerms.{DefsTerm, DictTerm, MemberTerm}

-- a member, with the dictionary that declares it and its number there
pub record DeclaredMember : Type 0 where
  pub dictionary : ℕ
  pub number : ℕ
  pub member : MemberTerm

-- 1. A dictionary with all from which it inherits, the least derived first

abbrev pub parent_in : List DictTerm → ℕ → Option ℕ
parent_in dicts n = option_and_then (λ (d : DictTerm). d.parent) (slice_get dicts n)

-- so many of them at most
abbrev pub line_within : List DictTerm → ℕ → Option ℕ → List ℕ
line_within dicts zero n = []
line_within dicts (suc links) None = []
line_within dicts (suc links) (Some n) = line_within dicts links (parent_in dicts n) ++ n ∷ []

-- no line has more dictionaries than there are
abbrev pub line_of : List DictTerm → ℕ → List ℕ
line_of dicts n = line_within dicts (length dicts) (Some n)

-- 2. The members that one of them declares, in lexicographical order of their names

abbrev pub declared_from : ℕ → ℕ → List MemberTerm → List DeclaredMember
declared_from n number [] = []
declared_from n number (m ∷ members) = record { dictionary = n; number = number; member = m } ∷ declared_from n (number + 1) members

abbrev pub declared_by : List DictTerm → ℕ → List DeclaredMember
declared_by dicts n = option_map_or (λ (d : DictTerm). declared_from n 0 d.members) (slice_get dicts n) []

-- the code units of the first name that differ decide
abbrev pub comes_after : DeclaredMember → DeclaredMember → Bool
comes_after m other = is_gt (slice_cmp nat_cmp m.member.name other.member.name)

abbrev pub with_member : DeclaredMember → List DeclaredMember → List DeclaredMember
with_member m [] = m ∷ []
with_member m (other ∷ members) = if comes_after m other then other ∷ with_member m members else m ∷ other ∷ members

abbrev pub by_name : List DeclaredMember → List DeclaredMember
by_name [] = []
by_name (m ∷ members) = with_member m (by_name members)

-- their numbers, in this order
abbrev pub own_order : List DictTerm → ℕ → List ℕ
own_order dicts n = map (λ (m : DeclaredMember). m.number) (by_name (declared_by dicts n))

-- 3. All of them

abbrev pub members_in_order : DefsTerm → ℕ → List DeclaredMember
members_in_order list n = flat_map (λ (level : ℕ). by_name (declared_by list.dicts level)) (line_of list.dicts n)
