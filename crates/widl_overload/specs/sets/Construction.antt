-- The standard's own construction of the effective overload set: of each overload the declared lists, grown at their end and cut at their end (Web IDL, "compute the effective overload set").
use Rattle.std.specs.Prelude.{ℕ, ◌+◌, ◌-◌, ◌++◌, Bool, false, List, [], ◌∷◌, length, take, slice_get, nat_eq, zero, suc, max, Option, None, Some, if◌then◌else◌}
use Rattle.widl_idl.specs.declared.argument.Optionality.{Optionality}
use Rattle.widl_idl.specs.declared.argument.Optionality.TheVariants.{Variadic}
use Rattle.widl_idl.specs.DefinitionTerms.{ArgTerm, SigTerm}
use Rattle.widl_idl.specs.Terms.{TypeTerm}
use Rattle.widl_overload.specs.sets.Sets.{TupleTerm, declared_opts, declared_types, is_free, longest, variadic_last}

abbrev pub declared_tuple : ℕ → List ArgTerm → TupleTerm
declared_tuple number args = record { overload = number; types = declared_types args; opts = declared_opts args }

-- a tuple with one more argument of this type
abbrev pub with_one_more : TypeTerm → TupleTerm → TupleTerm
with_one_more last t = record { overload = t.overload; types = t.types ++ last ∷ []; opts = t.opts ++ Variadic ∷ [] }

-- a tuple with one more argument, then with another one, so many times
abbrev pub grown : TypeTerm → TupleTerm → ℕ → List TupleTerm
grown last t zero = []
grown last t (suc count) = with_one_more last t ∷ grown last (with_one_more last t) count

abbrev pub grown_if_variadic : Option ArgTerm → TupleTerm → ℕ → List TupleTerm
grown_if_variadic None t count = []
grown_if_variadic (Some last) t count = grown last.ty t count

abbrev pub cut_to : ℕ → TupleTerm → TupleTerm
cut_to m t = record { overload = t.overload; types = take m t.types; opts = take m t.opts }

abbrev pub is_free_one : Option Optionality → Bool → Bool
is_free_one None is_last = false
is_free_one (Some opt) is_last = is_free opt is_last

-- of an overload with so many declared arguments a tuple of a length without its last argument, then without the one before, for as long as the argument cut off is optional, or is variadic and the last declared one
abbrev pub cuts : ℕ → TupleTerm → ℕ → List TupleTerm
cuts declared t zero = []
cuts declared t (suc m) = if is_free_one (slice_get t.opts m) (nat_eq (m + 1) declared) then cut_to m t ∷ cuts declared (cut_to m t) m else []

abbrev pub of_overload : ℕ → List ArgTerm → ℕ → List TupleTerm
of_overload number args most = declared_tuple number args ∷ (grown_if_variadic (variadic_last args) (declared_tuple number args) (most - length args) ++ cuts (length args) (declared_tuple number args) (length args))

abbrev pub of_overloads : ℕ → List SigTerm → ℕ → List TupleTerm
of_overloads number [] most = []
of_overloads number (s ∷ sigs) most = of_overload number s.args most ++ of_overloads (number + 1) sigs most

-- what the construction gives for so many arguments
abbrev pub constructed : List SigTerm → ℕ → List TupleTerm
constructed sigs n = of_overloads 0 sigs (max (longest sigs) n)
