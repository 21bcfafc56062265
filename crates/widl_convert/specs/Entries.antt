-- For proofs and contracts alone; no step names these words. The entries of a resolution by the numbers of their overloads, and the arguments that
-- are left of it.
use Rattle.std.specs.Prelude.{◌≡◌, ℕ, ◌+◌, ◌≤◌, ◌&&◌, Bool, true, nat_eq, nat_le, List, [], ◌∷◌, length, take, drop, slice_get, Option, None, Some}
use Rattle.std.specs.List.{list_any}
use Rattle.std.specs.Option.{option_map_or, unwrap_or}
use Rattle.widl_dialog.specs.Dialog.{End, Steps}
use Rattle.widl_idl.specs.declared.callee.Callee.{Callee}
use Rattle.widl_idl.specs.DefinitionTerms.{DefsTerm, ArgTerm}
use Rattle.widl_idl.specs.Terms.{TypeTerm, AnyType}
use Rattle.widl_overload.specs.sets.Entries.{declared_args, entry_for}
use Rattle.widl_overload.specs.sets.Sets.{TupleTerm}
use Rattle.widl_value.specs.declared.value.Value.{Value}
use Rattle.widl_value.specs.IdlTerms.{IdlTerm}
use Rattle.widl_trace.specs.declared.code.Code.TheVariants as code
use Rattle.widl_tables.specs.declared.kept_type.Kept.{Kept}
use Rattle.widl_tables.specs.Kept.{entries_for}
use Rattle.widl_steps.specs.Tasks.{Defaults, Talk}
use Rattle.widl_steps.specs.Words.{fails}

-- 1. The entries that are left

-- the entry of an overload for the arguments that count
abbrev pub entry_in : DefsTerm → Kept → ℕ → TupleTerm
entry_in list kept overload = entry_for overload (declared_args list kept.callee overload) kept.argcount

-- all that are kept, or one alone
abbrev pub entries_left : DefsTerm → Kept → Option ℕ → List TupleTerm
entries_left list kept None = entries_for list kept.callee kept.argcount kept.overloads
entries_left list kept (Some overload) = entry_in list kept overload ∷ []

-- the one of several that is there alone
abbrev pub sole : List ℕ → Option ℕ
sole (e ∷ []) = Some e
sole numbers = None

-- the place that tells them apart
abbrev pub place_in : Kept → ℕ
place_in kept = unwrap_or kept.place 0

-- numbers that rise, from this one on
abbrev pub rise : ℕ → List ℕ → Bool
rise n [] = true
rise n (e ∷ numbers) = nat_le n e && rise (e + 1) numbers

-- several are kept, one number each, and a place tells them apart
pub record AreSeveral (kept : Kept) : Type 0 where
  pub several : 2 ≤ length kept.overloads
  pub rising : rise 0 kept.overloads ≡ true
  pub placed : kept.place ≡ Some (place_in kept)

-- an overload is one of those that are kept
abbrev pub is_among : Kept → ℕ → Bool
is_among kept overload = list_any (nat_eq overload) kept.overloads

-- where none is left alone they are several
abbrev pub IsOpen : Kept → Option ℕ → Type 0
IsOpen kept overload = overload ≡ None → AreSeveral kept

-- none is left alone, and the argument after so many tells them apart
pub record IsAtPlace (kept : Kept) (overload : Option ℕ) (made : ℕ) : Type 0 where
  pub none : overload ≡ None
  pub here : kept.place ≡ Some made

-- 2. The arguments that are left

-- those that count, from a place on
abbrev pub left_from : ℕ → Kept → List Value → List Value
left_from place kept args = drop place (take kept.argcount args)

-- 3. What an overload declares at a place

abbrev pub declared_type : DefsTerm → Callee → ℕ → ℕ → TypeTerm
declared_type list callee overload place = option_map_or (λ (a : ArgTerm). a.ty) (slice_get (declared_args list callee overload) place) AnyType

-- 4. What follows the last argument

-- where one entry is left alone, its declared arguments beyond those that a call has
abbrev pub after_arguments : Callee → Option ℕ → List IdlTerm → Talk
after_arguments callee None made = fails code.NoMatch
after_arguments callee (Some overload) made = Steps (Defaults callee overload made) End
