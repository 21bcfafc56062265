-- For proofs alone. Overloads by their numbers, each of which stands for all its tuples: what these have at a place, and the places that tell overloads apart.
use Rattle.std.specs.Prelude.{◌≡◌, ◌≢◌, ◌⊎◌, ℕ, ◌-◌, ◌<◌, ◌≤◌, Bool, true, false, Contains, List, length, slice_get, Option, None, Some, MatchBool, MatchOption, option_and_then, option_map}
use Rattle.std.specs.List.{All}
use Rattle.widl_idl.specs.declared.argument.Optionality.{Optionality}
use Rattle.widl_idl.specs.DefinitionTerms.{IfaceTerm, ArgTerm, SigTerm}
use Rattle.widl_idl.specs.Terms.{TypeTerm}
use Rattle.widl_overload.specs.declared.overload_sizes.Row.{Row}
use Rattle.widl_overload.specs.sets.Index.{each_two, types_apart}

abbrev pub or_last : List ArgTerm → Option ArgTerm → Option ArgTerm
or_last args None = slice_get args (length args - 1)
or_last args (Some a) = Some a

-- the argument at a place; beyond them the last one
abbrev pub arg_or_last : ℕ → List ArgTerm → Option ArgTerm
arg_or_last place args = or_last args (slice_get args place)

abbrev pub arg_at : List SigTerm → ℕ → ℕ → Option ArgTerm
arg_at sigs place number = option_and_then (λ (s : SigTerm). arg_or_last place s.args) (slice_get sigs number)

abbrev pub type_at : List SigTerm → ℕ → ℕ → Option TypeTerm
type_at sigs place number = option_map (λ (a : ArgTerm). a.ty) (arg_at sigs place number)

abbrev pub opt_at : List SigTerm → ℕ → ℕ → Option Optionality
opt_at sigs place number = option_map (λ (a : ArgTerm). a.opt) (arg_at sigs place number)

-- whether two overloads have distinguishable types at a place
unfoldable pub numbers_apart : List IfaceTerm → List SigTerm → ℕ → ℕ → ℕ → Bool
numbers_apart ifaces sigs place i j = types_apart ifaces (type_at sigs place i) (type_at sigs place j)

-- whether each two of the overloads are distinguishable at a place
abbrev pub numbers_tell : List IfaceTerm → List SigTerm → List ℕ → ℕ → Bool
numbers_tell ifaces sigs numbers place = each_two (numbers_apart ifaces sigs place) numbers

-- the lowest place at which each two of several overloads are distinguishable
pub record IsTelling (ifaces : List IfaceTerm) (sigs : List SigTerm) (numbers : List ℕ) (m place : ℕ) : Type 0 where
  pub several : 2 ≤ length numbers
  pub within : place < m
  pub tells : numbers_tell ifaces sigs numbers place ≡ true
  pub lowest : (p : ℕ) → p < place → numbers_tell ifaces sigs numbers p ≡ false

-- there are fewer than two overloads, or none of so many places will do
abbrev pub NoneTells : List IfaceTerm → List SigTerm → List ℕ → ℕ → Type 0
NoneTells ifaces sigs numbers m = 2 ≤ length numbers → (p : ℕ) → p < m → numbers_tell ifaces sigs numbers p ≡ false

-- the types and the optionality values of two overloads at a place are the same
pub record NumbersAgreeAt (sigs : List SigTerm) (i j place : ℕ) : Type 0 where
  pub types : type_at sigs place i ≡ type_at sigs place j
  pub opts : opt_at sigs place i ≡ opt_at sigs place j

abbrev pub NumbersDifferAt : List SigTerm → ℕ → ℕ → ℕ → Type 0
NumbersDifferAt sigs i j place = (type_at sigs place i ≢ type_at sigs place j) ⊎ (opt_at sigs place i ≢ opt_at sigs place j)

abbrev pub NumbersAgreeBefore : List SigTerm → ℕ → ℕ → ℕ → Type 0
NumbersAgreeBefore sigs index i j = (place : ℕ) → place < index → NumbersAgreeAt sigs i j place

pub record NumbersDifferBefore (sigs : List SigTerm) (index i j : ℕ) : Type 0 where
  pub place : ℕ
  pub early : place < index
  pub differ : NumbersDifferAt sigs i j place

-- an overload differs from one of these before an index
pub record OneDiffers (sigs : List SigTerm) (index i : ℕ) (numbers : List ℕ) : Type 0 where
  pub other : ℕ
  pub listed : Contains numbers other
  pub differ : NumbersDifferBefore sigs index i other

-- the first of the overloads differs from another one before an index
pub record FirstDiffers (sigs : List SigTerm) (index : ℕ) (numbers : List ℕ) : Type 0 where
  pub first : ℕ
  pub is_first : slice_get numbers 0 ≡ Some first
  pub differs : OneDiffers sigs index first numbers

abbrev pub AllAgree : List SigTerm → ℕ → List ℕ → Type 0
AllAgree sigs index numbers = (first : ℕ) → slice_get numbers 0 ≡ Some first → All (NumbersAgreeBefore sigs index first) numbers

abbrev pub IsEarly : List SigTerm → List ℕ → Option ℕ → Bool → Type 0
IsEarly sigs numbers index early = MatchOption index (early ≡ false) (λ place. MatchBool early (FirstDiffers sigs place numbers) (AllAgree sigs place numbers))

-- what tells the overloads of a row apart before a length, and whether they differ before it
pub record IsRow (ifaces : List IfaceTerm) (sigs : List SigTerm) (m : ℕ) (row : Row) : Type 0 where
  pub index : MatchOption row.index (NoneTells ifaces sigs row.overloads m) (IsTelling ifaces sigs row.overloads m)
  pub early : IsEarly sigs row.overloads row.index row.early
