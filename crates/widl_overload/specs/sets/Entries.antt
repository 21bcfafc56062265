-- The overloads of a callee and the entries of each in the effective overload set, over plain terms.
-- Source: Web IDL, "compute the effective overload set".
use Rattle.std.specs.Prelude.{ℕ, ◌-◌, ◌++◌, Bool, List, [], length, take, drop, replicate, map, slice_get, nat_lt, if◌then◌else◌, Option, None, Some}
use Rattle.std.specs.List.{list_any}
use Rattle.std.specs.Option.{option_map_or, unwrap_or}
use Rattle.widl_idl.specs.declared.argument.Optionality.{Optionality}
use Rattle.widl_idl.specs.declared.argument.Optionality.TheVariants.{Required, Variadic}
use Rattle.widl_idl.specs.declared.callee.Callee.{Callee}
use Rattle.widl_idl.specs.DefinitionTerms.{DefsTerm, ArgTerm, SigTerm}
use Rattle.widl_idl.specs.Terms.{TypeTerm, AnyType}
use Rattle.widl_overload.specs.sets.Sets.{TupleTerm, are_free, is_variadic, overloads_of as overloads_if_any}

-- 1. The overloads of a callee: of an operation name or of constructors. Anything else has none.

abbrev pub overloads_of : DefsTerm → Callee → List SigTerm
overloads_of list callee = unwrap_or (overloads_if_any list callee) []

-- the arguments that an overload declares
abbrev pub declared_args : DefsTerm → Callee → ℕ → List ArgTerm
declared_args list callee overload = option_map_or (λ (s : SigTerm). s.args) (slice_get (overloads_of list callee) overload) []

-- 2. The entries of an overload

abbrev pub is_variadic_list : List ArgTerm → Bool
is_variadic_list args = list_any (λ (a : ArgTerm). is_variadic a.opt) (drop (length args - 1) args)

abbrev pub types_of : List ArgTerm → List TypeTerm
types_of args = map (λ (a : ArgTerm). a.ty) args

abbrev pub optionalities_of : List ArgTerm → List Optionality
optionalities_of args = map (λ (a : ArgTerm). a.opt) args

-- a longer type list repeats the last type of a variadic overload
abbrev pub repeated : ℕ → List ArgTerm → ℕ → TupleTerm
repeated number args count =
    let last : List ArgTerm = drop (length args - 1) args in
    record {
      overload = number;
      types = types_of args ++ option_map_or (λ (a : ArgTerm). replicate count a.ty) (slice_get last 0) [];
      opts = optionalities_of args ++ replicate count Variadic;
    }

-- a shorter one leaves arguments out at the end
abbrev pub cut : ℕ → List ArgTerm → ℕ → TupleTerm
cut number args m = record { overload = number; types = take m (types_of args); opts = take m (optionalities_of args) }

-- the entry of an overload for a length, if it has one
abbrev pub entry_of : ℕ → List ArgTerm → ℕ → Option TupleTerm
entry_of number args m =
    if nat_lt (length args) m
    then (if is_variadic_list args then Some (repeated number args (m - length args)) else None)
    else if are_free (optionalities_of (drop m args)) then Some (cut number args m) else None

-- the entry of an overload for a length for which it has one
abbrev pub entry_for : ℕ → List ArgTerm → ℕ → TupleTerm
entry_for number args m = if nat_lt (length args) m then repeated number args (m - length args) else cut number args m

-- an entry's type and its optionality value at a place; past its end, where no argument is asked for, `any` and required
abbrev pub type_at : TupleTerm → ℕ → TypeTerm
type_at entry place = option_map_or (λ (t : TypeTerm). t) (slice_get entry.types place) AnyType

abbrev pub optionality_at : TupleTerm → ℕ → Optionality
optionality_at entry place = option_map_or (λ (o : Optionality). o) (slice_get entry.opts place) Required
