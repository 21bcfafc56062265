-- For proofs alone. All pairs of innermost types, as one test each for the functions that walk them.
use Rattle.std.specs.Prelude.{Bool, ◌&&◌, not, if◌then◌else◌, is_some, List, [], map, Option, None}
use Rattle.std.specs.List.{list_all}
use Rattle.widl_idl.specs.DefinitionTerms.{IfaceTerm}
use Rattle.widl_idl.specs.Terms.{TypeTerm, NullableType, UnionType, packed, type_term}
use Rattle.widl_idl.specs.declared.types.IdlType.{IdlType}
use Rattle.widl_idl.specs.Flattened.{flattened_member}
use Rattle.widl_overload.specs.declared.category.Category.{Category}
use Rattle.widl_overload.specs.sets.Distinct.{any_nullable_clash, categories_apart, category, distinguishable, listed, union_members}

unfoldable pub is_apart : List IfaceTerm → Category → TypeTerm → Bool
is_apart ifaces c t = categories_apart ifaces c (category t)

unfoldable pub each_apart : List IfaceTerm → List TypeTerm → TypeTerm → Bool
each_apart ifaces others t = list_all (is_apart ifaces (category t)) others

-- the closed form of distinguishability for two types one of which is no union: the innermost types of the one and of the other are told apart pair by pair, and none of them clashes by a mark of nullable types
unfoldable pub flattened_apart : List IfaceTerm → TypeTerm → TypeTerm → Bool
flattened_apart ifaces t u = not (any_nullable_clash t u) && list_all (each_apart ifaces (flattened_member u)) (flattened_member t)

-- the terms of members that stand in a union
abbrev pub listed_terms : List IdlType → List TypeTerm
listed_terms types = listed (packed (map type_term types))

-- the members of a union or a nullable union; none of another type
abbrev pub members_in : TypeTerm → List TypeTerm
members_in (NullableType t) = members_in t
members_in (UnionType ts) = listed ts
members_in t = []

-- the members of the second of two types, if both are unions
abbrev pub second_members : TypeTerm → TypeTerm → Option (List TypeTerm)
second_members t u = if is_some (union_members t) then union_members u else None

-- a type is distinguishable from each of these
unfoldable pub apart_from : List IfaceTerm → List TypeTerm → TypeTerm → Bool
apart_from ifaces others t = list_all (distinguishable ifaces t) others
