-- The effective overload set of a callee, each tuple in closed form (Web IDL, "effective overload set").
use Rattle.std.specs.Prelude.{ℕ, ◌+◌, ◌-◌, ◌<◌, ◌++◌, ◌&&◌, Bool, true, false, List, [], ◌∷◌, length, take, drop, slice_get, replicate, zero, suc, max, map, nat_lt, Option, None, Some, option_map, option_and_then, is_some, if◌then◌else◌}
use Rattle.widl_idl.specs.declared.argument.Optionality.{Optionality}
use Rattle.widl_idl.specs.declared.argument.Optionality.TheVariants.{Required, Optional, Variadic}
use Rattle.widl_idl.specs.declared.callee.Callee.{Callee}
use Rattle.widl_idl.specs.declared.callee.Owner.{Owner}
use Rattle.widl_idl.specs.declared.callee.Owner.TheVariants as owners
use Rattle.widl_idl.specs.declared.callee.Part.{Part}
use Rattle.widl_idl.specs.declared.callee.Part.TheVariants as parts
use Rattle.widl_idl.specs.declared.signature.Sig.{Sig}
use Rattle.widl_idl.specs.DefinitionTerms.{ArgTerm, DefsTerm, IfaceTerm, OpNameTerm, SigTerm, SpaceTerm, sig_term}
use Rattle.widl_idl.specs.Counts.{IsNumbered}
use Rattle.widl_idl.specs.Terms.{TypeTerm, type_terms}
use Rattle.widl_overload.specs.declared.tuple.Tuple.{Tuple}
use Rattle.widl_overload.specs.declared.tuple.OverloadSet.{OverloadSet}

-- signatures as terms
abbrev pub sig_terms : List Sig → List SigTerm
sig_terms sigs = map sig_term sigs

-- the overloads of the operations with this number
abbrev pub overloads_named : List OpNameTerm → ℕ → Option (List SigTerm)
overloads_named ops n = option_map (λ op. op.sigs) (slice_get ops n)

abbrev pub interface_overloads : Part → IfaceTerm → Option (List SigTerm)
interface_overloads (parts.Op m) i = overloads_named i.members.ops m
interface_overloads parts.Constructor i = Some i.ctors
interface_overloads part i = None

abbrev pub namespace_overloads : Part → SpaceTerm → Option (List SigTerm)
namespace_overloads (parts.Op m) s = overloads_named s.members.ops m
namespace_overloads part s = None

abbrev pub overloads_in : DefsTerm → Owner → Part → Option (List SigTerm)
overloads_in defs (owners.Iface n) part = option_and_then (interface_overloads part) (slice_get defs.ifaces n)
overloads_in defs (owners.Space n) part = option_and_then (namespace_overloads part) (slice_get defs.spaces n)

-- the overloads of a callee that is an operation name or the constructors of an interface
abbrev pub overloads_of : DefsTerm → Callee → Option (List SigTerm)
overloads_of defs callee = overloads_in defs callee.owner callee.part

-- a tuple of the set: the number of its overload, and the types and optionality values of its arguments
pub record TupleTerm : Type 0 where
  pub overload : ℕ
  pub types : List TypeTerm
  pub opts : List Optionality

abbrev pub tuple_term : Tuple → TupleTerm
tuple_term t = record { overload = t.overload; types = type_terms t.types; opts = t.opts }

-- the tuples of a set, as contracts see it
abbrev pub tuples_in : OverloadSet → List TupleTerm
tuples_in set = map tuple_term set.tuples.items

-- whether a call may leave out an argument with this optionality value: an optional one, or a variadic one that is the last
abbrev pub is_free : Optionality → Bool → Bool
is_free Required is_last = false
is_free Optional is_last = true
is_free Variadic is_last = is_last

abbrev pub is_end : {X : Type 0} → List X → Bool
is_end [] = true
is_end (x ∷ xs) = false

-- whether a call may leave out each of the arguments from one on, which have these optionality values
abbrev pub are_free : List Optionality → Bool
are_free [] = true
are_free (opt ∷ opts) = is_free opt (is_end opts) && are_free opts

abbrev pub is_variadic : Optionality → Bool
is_variadic Required = false
is_variadic Optional = false
is_variadic Variadic = true

abbrev pub if_variadic : Option ArgTerm → Option ArgTerm
if_variadic None = None
if_variadic (Some a) = if is_variadic a.opt then Some a else None

-- the last argument, if it is variadic
abbrev pub variadic_last : List ArgTerm → Option ArgTerm
variadic_last args = if_variadic (slice_get args (length args - 1))

abbrev pub declared_types : List ArgTerm → List TypeTerm
declared_types args = map (λ a. a.ty) args

abbrev pub declared_opts : List ArgTerm → List Optionality
declared_opts args = map (λ a. a.opt) args

-- the declared lists, and then so many copies of the variadic argument
abbrev pub longer : ℕ → List ArgTerm → ℕ → Option ArgTerm → Option TupleTerm
longer number args count None = None
longer number args count (Some last) = Some (record { overload = number; types = declared_types args ++ replicate count last.ty; opts = declared_opts args ++ replicate count Variadic })

-- the declared lists as far as a length, where each argument from there on may be left out
abbrev pub shorter : ℕ → List ArgTerm → ℕ → Option TupleTerm
shorter number args m = if are_free (declared_opts (drop m args)) then Some (record { overload = number; types = take m (declared_types args); opts = take m (declared_opts args) }) else None

-- the tuple of a length of the overload with this number and these arguments, if there is one
abbrev pub tuple_of : ℕ → List ArgTerm → ℕ → Option TupleTerm
tuple_of number args m = if nat_lt (length args) m then longer number args (m - length args) (variadic_last args) else shorter number args m

abbrev pub with_tuple : Option TupleTerm → List TupleTerm → List TupleTerm
with_tuple None tuples = tuples
with_tuple (Some t) tuples = t ∷ tuples

-- the tuples of a length, by overload, where the first overload has this number
abbrev pub of_length : ℕ → ℕ → List SigTerm → List TupleTerm
of_length m number [] = []
of_length m number (s ∷ sigs) = with_tuple (tuple_of number s.args m) (of_length m (number + 1) sigs)

-- the tuples of so many lengths, from one on
abbrev pub of_lengths : ℕ → ℕ → List SigTerm → List TupleTerm
of_lengths m zero sigs = []
of_lengths m (suc count) sigs = of_length m 0 sigs ++ of_lengths (m + 1) count sigs

-- the length of the longest list of arguments
abbrev pub longest : List SigTerm → ℕ
longest [] = 0
longest (s ∷ sigs) = max (length s.args) (longest sigs)

-- the effective overload set for so many arguments, by length, then overload
abbrev pub effective_tuples : List SigTerm → ℕ → List TupleTerm
effective_tuples sigs n = of_lengths 0 (max (longest sigs) n + 1) sigs

-- whether an overload is variadic
abbrev pub has_variadic : SigTerm → Bool
has_variadic s = is_some (variadic_last s.args)

abbrev pub effective_or_none : Option (List SigTerm) → ℕ → List TupleTerm
effective_or_none None n = []
effective_or_none (Some sigs) n = effective_tuples sigs n

-- the effective overload set of a callee
abbrev pub effective_set_of : DefsTerm → Callee → ℕ → List TupleTerm
effective_set_of defs callee n = effective_or_none (overloads_of defs callee) n

abbrev pub HasFewArgs : SigTerm → Type 0
HasFewArgs s = length s.args < 4294967296

-- overloads that 32 bits can number, as their arguments
abbrev pub AreNumbered : List SigTerm → Type 0
AreNumbered sigs = IsNumbered HasFewArgs sigs
