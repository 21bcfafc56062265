-- Values of the script to dictionaries.
-- Source: Web IDL, "Dictionary types" (JavaScript binding).
use Rattle.std.specs.Prelude.{ℕ, Bool, if◌then◌else◌, List, [], ◌∷◌, ◌++◌, Option, None, Some}
use Rattle.std.specs.List.{list_any}
use Rattle.widl_dialog.specs.Dialog.{End, Say, Steps}
use Rattle.widl_text.specs.declared.key.Key.TheVariants as keys
use Rattle.widl_idl.specs.declared.literal.Literal.{Literal}
use Rattle.widl_idl.specs.DefinitionTerms.{DefsTerm}
use Rattle.widl_value.specs.declared.object.ObjRef.{ObjRef}
use Rattle.widl_value.specs.declared.value.Value.{Value}
use Rattle.widl_value.specs.declared.value.Value.TheVariants as values
use Rattle.widl_value.specs.IdlTerms.{IdlTerm, DictionaryValue, packed_members}
use Rattle.widl_trace.specs.declared.code.Code.TheVariants as code
use Rattle.widl_steps.specs.AskTerms.{GetAsk, UnitAsk}
use Rattle.widl_tables.specs.MemberOrder.{DeclaredMember, members_in_order}
use Rattle.widl_steps.specs.Tasks.{Convert, Default, Members, Talk, TaskEnd}
use Rattle.widl_steps.specs.Words.{done, gives, fails, normal, given}

-- 1. The members in order. Each is read from the object; where the value is undefined or null it is undefined, for a unit of the budget.

abbrev pub with_value : DeclaredMember → IdlTerm → List (ℕ × ℕ × IdlTerm) → List (ℕ × ℕ × IdlTerm)
with_value m w made = made ++ (m.dictionary, m.number, w) ∷ []

abbrev pub member_given : ℕ → Option ObjRef → DeclaredMember → List DeclaredMember → List (ℕ × ℕ × IdlTerm) → TaskEnd → Talk
member_given n o m left made = given (λ w. Steps (Members n o left (with_value m w made)) End)

-- undefined gives way to the default value. Without one a required member throws, and any other is left out.
abbrev pub undefined_member : ℕ → Option ObjRef → DeclaredMember → List DeclaredMember → List (ℕ × ℕ × IdlTerm) → Option Literal → Talk
undefined_member n o m left made (Some l) = Steps (Default m.member.ty (Some l)) (member_given n o m left made)
undefined_member n o m left made None = if m.member.needed then fails code.Required else Steps (Members n o left made) End

-- any other value is converted
abbrev pub member_value : ℕ → Option ObjRef → DeclaredMember → List DeclaredMember → List (ℕ × ℕ × IdlTerm) → Value → Talk
member_value n o m left made values.Undefined = undefined_member n o m left made m.member.value
member_value n o m left made v = Steps (Convert m.member.ty v) (member_given n o m left made)

abbrev pub member : ℕ → Option ObjRef → DeclaredMember → List DeclaredMember → List (ℕ × ℕ × IdlTerm) → Talk
member n (Some o) m left made = Say (GetAsk o (keys.Name m.member.name)) (normal (member_value n (Some o) m left made))
member n None m left made = Say UnitAsk (done (member_value n None m left made values.Undefined))

abbrev pub members : ℕ → Option ObjRef → List DeclaredMember → List (ℕ × ℕ × IdlTerm) → Talk
members n o [] made = gives (DictionaryValue n (packed_members made))
members n o (m ∷ left) made = member n o m left made

-- a member is required, inherited ones included
abbrev pub requires_member : DefsTerm → ℕ → Bool
requires_member list n = list_any (λ (m : DeclaredMember). m.member.needed) (members_in_order list n)

-- 2. The dictionary of a value, of an object or of none

abbrev pub dictionary_of : DefsTerm → ℕ → Option ObjRef → Talk
dictionary_of list n o = Steps (Members n o (members_in_order list n) []) End

abbrev pub to_dictionary : DefsTerm → ℕ → Value → Talk
to_dictionary list n values.Undefined = dictionary_of list n None
to_dictionary list n values.Null = dictionary_of list n None
to_dictionary list n (values.Obj o) = dictionary_of list n (Some o)
to_dictionary list n _ = fails code.Dictionary
