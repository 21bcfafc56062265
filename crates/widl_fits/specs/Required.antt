-- For proofs alone. Which dictionaries have a required member, as the program keeps it.
use Rattle.std.specs.Prelude.{◌≡◌, ◌↔◌, ℕ, Bool, true, false, ◌||◌, List, slice_index_or}
use Rattle.std.specs.List.{list_any}
use Rattle.widl_fits.specs.declared.required_members.RequiredMembers.{RequiredMembers}
use Rattle.widl_idl.specs.DefinitionTerms.{DictTerm, MemberTerm}
use Rattle.widl_overload.specs.rules.Dictionaries.{HasRequired}

abbrev pub has_own : DictTerm → Bool
has_own d = list_any (λ (m : MemberTerm). m.needed) d.members

-- whether one of the flags of a number is set
abbrev pub is_flagged : RequiredMembers → ℕ → Bool
is_flagged required number = slice_index_or required.own.items number false || slice_index_or required.inherited.items number false

-- one of the flags is set exactly where a dictionary has a required member, inherited ones included
pub record TellsRequired (dicts : List DictTerm) (required : RequiredMembers) : Type 0 where
  pub tells : (number : ℕ) → (is_flagged required number ≡ true) ↔ HasRequired dicts number
