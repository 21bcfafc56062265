-- The entries of a callee's effective overload set that a number of arguments keeps, and the argument that tells them apart.
-- Source: Web IDL, "compute the effective overload set"; "distinguishing argument index"; "overload resolution algorithm", steps 1 to 8.
use Rattle.std.specs.Prelude.{ℕ, ◌+◌, min, zero, suc, List, [], ◌∷◌, length, filter, map, nat_lt, nat_eq, if◌then◌else◌, Bool, Option, None, Some}
use Rattle.std.specs.List.{list_any}
use Rattle.widl_idl.specs.declared.callee.Callee.{Callee}
use Rattle.widl_idl.specs.DefinitionTerms.{DefsTerm, SigTerm, IfaceTerm}
use Rattle.widl_overload.specs.sets.Entries.{declared_args, entry_for, entry_of, is_variadic_list, overloads_of}
use Rattle.widl_overload.specs.sets.Index.{apart_at, each_two}
use Rattle.widl_overload.specs.sets.Inheritance.{inherits}
use Rattle.widl_overload.specs.sets.Sets.{TupleTerm, longest, with_tuple}

-- 1. How many arguments count: as many as the longest type list of the set has, at most. With a variadic overload the set for n
-- arguments has type lists of length n at least.

abbrev pub counted_args : List SigTerm → ℕ → ℕ
counted_args sigs n = if list_any (λ (s : SigTerm). is_variadic_list s.args) sigs then n else min n (longest sigs)

abbrev pub argcount_of : DefsTerm → Callee → ℕ → ℕ
argcount_of list callee n = counted_args (overloads_of list callee) n

-- 2. The entries whose type list has a length

-- by overload, where the first has this number
abbrev pub entries_of : ℕ → ℕ → List SigTerm → List TupleTerm
entries_of m number [] = []
entries_of m number (s ∷ sigs) = with_tuple (entry_of number s.args m) (entries_of m (number + 1) sigs)

-- the entries that are kept for n arguments
abbrev pub kept_tuples : DefsTerm → Callee → ℕ → List TupleTerm
kept_tuples list callee n = entries_of (argcount_of list callee n) 0 (overloads_of list callee)

-- the entries of the overloads with these numbers for a length for which each has one
abbrev pub entries_for : DefsTerm → Callee → ℕ → List ℕ → List TupleTerm
entries_for list callee m numbers = map (λ (e : ℕ). entry_for e (declared_args list callee e) m) numbers

-- the numbers of the overloads that entries are of
abbrev pub numbers_of : List TupleTerm → List ℕ
numbers_of entries = map (λ (t : TupleTerm). t.overload) entries

-- the entry of an overload alone
abbrev pub entry_alone : ℕ → List TupleTerm → List TupleTerm
entry_alone overload entries = filter (λ (t : TupleTerm). nat_eq t.overload overload) entries

-- 3. The argument that tells entries apart

-- a platform object of the first interface implements the second
abbrev pub implements : DefsTerm → ℕ → ℕ → Bool
implements list m n = if nat_eq m n then nat_lt m (length list.ifaces) else inherits list.ifaces m n

-- of so many places from one on, the lowest at which each two entries have distinguishable types; else the place after them
abbrev pub telling_from : List IfaceTerm → List TupleTerm → ℕ → ℕ → ℕ
telling_from ifaces entries place zero = place
telling_from ifaces entries place (suc count) = if each_two (apart_at ifaces place) entries then place else telling_from ifaces entries (place + 1) count

abbrev pub first_length : List TupleTerm → ℕ
first_length [] = 0
first_length (t ∷ entries) = length t.types

-- the distinguishing argument index of entries of one length; where several have none, which is so in no valid list, their length
abbrev pub telling_place : DefsTerm → List TupleTerm → ℕ
telling_place list entries = telling_from list.ifaces entries 0 (first_length entries)

-- the place by which a value chooses: there is one where there are several entries
abbrev pub choosing_place : DefsTerm → List TupleTerm → Option ℕ
choosing_place list [] = None
choosing_place list (t ∷ []) = None
choosing_place list (t ∷ u ∷ more) = Some (telling_place list (t ∷ u ∷ more))
