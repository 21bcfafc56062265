-- For proofs alone. What stands at a place of an overload's entries, without the entries.
use Rattle.std.specs.Prelude.{ℕ, ◌-◌, List, [], length, slice_get, Option, None, Some, option_map}
use Rattle.std.specs.Option.{option_map_or}
use Rattle.widl_idl.specs.declared.argument.Optionality.{Optionality}
use Rattle.widl_idl.specs.declared.argument.Optionality.TheVariants.{Variadic}
use Rattle.widl_idl.specs.DefinitionTerms.{ArgTerm, SigTerm}
use Rattle.widl_idl.specs.Terms.{TypeTerm, type_term}
use Rattle.widl_overload.specs.declared.standing.Standing.{Standing}

pub record StandingTerm : Type 0 where
  pub ty : TypeTerm
  pub opt : Optionality

abbrev pub standing_term : Standing → StandingTerm
standing_term s = record { ty = type_term s.ty.now; opt = s.opt }

-- the declared type and optionality value
abbrev pub declared : ArgTerm → StandingTerm
declared a = record { ty = a.ty; opt = a.opt }

-- those of the last argument once more
abbrev pub again : List ArgTerm → Option StandingTerm
again args = option_map (λ (a : ArgTerm). record { ty = a.ty; opt = Variadic }) (slice_get args (length args - 1))

abbrev pub standing_or : Option ArgTerm → List ArgTerm → Option StandingTerm
standing_or None args = again args
standing_or (Some a) args = Some (declared a)

abbrev pub standing_among : List ArgTerm → ℕ → Option StandingTerm
standing_among args place = standing_or (slice_get args place) args

-- the arguments of one of these overloads
abbrev pub args_in : List SigTerm → ℕ → List ArgTerm
args_in sigs e = option_map_or (λ (s : SigTerm). s.args) (slice_get sigs e) []
