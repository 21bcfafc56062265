-- For proofs and contracts alone; no step names these words. The members of a dictionary that are left, as a suspended conversion holds them.
use Rattle.std.specs.Prelude.{ℕ, false, List, [], ◌∷◌, ◌++◌, drop, flat_map, reverse, slice_get, None}
use Rattle.std.specs.Option.{option_and_then, option_map_or}
use Rattle.widl_idl.specs.DefinitionTerms.{DefsTerm, DictTerm, MemberTerm}
use Rattle.widl_idl.specs.Terms.{AnyType}
use Rattle.widl_tables.specs.MemberOrder.{DeclaredMember, by_name, declared_by}
use Rattle.widl_convert.specs.declared.members_left.MemberPlace.{MemberPlace}
use Rattle.widl_convert.specs.declared.members_left.MembersLeft.{MembersLeft}

-- 1. A member by its place in the list. What isn't there is like a member that is never asked for.

abbrev pub no_member : MemberTerm
no_member = record { at = record { file = 0; at = 0 }; name = []; ty = AnyType; needed = false; value = None }

abbrev pub member_at : DefsTerm → MemberPlace → MemberTerm
member_at list at = option_map_or (λ (m : MemberTerm). m) (option_and_then (λ (d : DictTerm). slice_get d.members at.number) (slice_get list.dicts at.dictionary)) no_member

abbrev pub declared_at : DefsTerm → MemberPlace → DeclaredMember
declared_at list at = record { dictionary = at.dictionary; number = at.number; member = member_at list at }

-- 2. Those that are left: of the first of these dictionaries from a place on, and of the others all

abbrev pub own_members : DefsTerm → ℕ → List DeclaredMember
own_members list level = by_name (declared_by list.dicts level)

abbrev pub members_from : DefsTerm → ℕ → List ℕ → List DeclaredMember
members_from list place [] = []
members_from list place (level ∷ levels) = drop place (own_members list level) ++ flat_map (own_members list) levels

-- the code takes the dictionaries from the end of its list
abbrev pub members_left : DefsTerm → MembersLeft → List DeclaredMember
members_left list left = members_from list left.place (reverse left.levels.items)
