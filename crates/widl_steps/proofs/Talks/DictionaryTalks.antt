-- Worked conversations with everything built: dictionaries.
use Rattle.std.specs.Prelude.{[], ◌∷◌, None, Some, true, codes, pos, refl}
use Rattle.widl_dialog.specs.Conversation.{Asks, Ends}
use Rattle.widl_text.specs.declared.key.Key.TheVariants as keys
use Rattle.widl_idl.specs.declared.literal.Literal.TheVariants as literals
use Rattle.widl_idl.specs.DefinitionTerms.{DefsTerm}
use Rattle.widl_idl.specs.Terms.{DictionaryType}
use Rattle.widl_value.specs.declared.value.Value.TheVariants as values
use Rattle.widl_value.specs.IdlTerms.{DictionaryValue, packed_members}
use Rattle.widl_trace.specs.declared.code.Code.TheVariants as code
use Rattle.widl_steps.specs.AskTerms.{GetAsk, UnitAsk, ThrownAnswer}
use Rattle.widl_steps.specs.Tasks.{Task, Convert, Gives, Throw, Rethrow}
use Rattle.widl_steps.proofs.Worked.{number, integer, plain, gets_name, takes_unit, dictionary, optional_member, required_member, with_dictionaries, derived, long, nothing_defined, Tells}

-- 1. `dictionary B { long b = 1; }; dictionary D : B { long c = 9; long a; };` (`derived`): the members of B come first, and those of D by their names

abbrev pub of_object : Task
of_object = Convert (DictionaryType 1) (values.Obj (plain 1))

pub base_is_first : Tells derived of_object [] (Asks (GetAsk (plain 1) (keys.Name (codes "b"))))
base_is_first = (60, refl)

pub then_by_name : Tells derived of_object (gets_name (plain 1) (codes "b") (number 2) ∷ []) (Asks (GetAsk (plain 1) (keys.Name (codes "a"))))
then_by_name = (60, (refl, tt, refl))

-- a member that is gone when it is asked for is left out, and has its default value where it has one
gone_is_left_out : Tells derived of_object (gets_name (plain 1) (codes "b") (number 2) ∷ gets_name (plain 1) (codes "a") values.Undefined ∷ gets_name (plain 1) (codes "c") (number 5) ∷ []) (Ends (Gives (DictionaryValue 1 (packed_members ((0, 0, integer 2) ∷ (1, 0, integer 5) ∷ [])))))
gone_is_left_out = (60, (refl, tt, (refl, tt, (refl, tt, refl))))

defaults_are_taken : Tells derived of_object (gets_name (plain 1) (codes "b") values.Undefined ∷ gets_name (plain 1) (codes "a") (number 4) ∷ gets_name (plain 1) (codes "c") values.Undefined ∷ []) (Ends (Gives (DictionaryValue 1 (packed_members ((0, 0, integer 1) ∷ (1, 1, integer 4) ∷ (1, 0, integer 9) ∷ [])))))
defaults_are_taken = (60, (refl, tt, (refl, tt, (refl, tt, refl))))

-- null is no undefined
null_is_converted : Tells derived of_object (gets_name (plain 1) (codes "b") values.Null ∷ gets_name (plain 1) (codes "a") values.Undefined ∷ gets_name (plain 1) (codes "c") values.Undefined ∷ []) (Ends (Gives (DictionaryValue 1 (packed_members ((0, 0, integer 0) ∷ (1, 0, integer 9) ∷ [])))))
null_is_converted = (60, (refl, tt, (refl, tt, (refl, tt, refl))))

member_throws : Tells derived of_object (gets_name (plain 1) (codes "b") (values.Sym 3) ∷ []) (Ends (Throw code.Symbol))
member_throws = (60, (refl, tt, refl))

read_throws : Tells derived of_object ((GetAsk (plain 1) (keys.Name (codes "b")), ThrownAnswer (number 9)) ∷ []) (Ends (Rethrow (number 9)))
read_throws = (60, (refl, tt, refl))

no_dictionary : Tells derived (Convert (DictionaryType 1) (values.Bool true)) [] (Ends (Throw code.Dictionary))
no_dictionary = (60, refl)

-- 2. Undefined and null: nothing is read, and a unit is taken for each member

unit_is_taken : Tells derived (Convert (DictionaryType 1) values.Null) [] (Asks UnitAsk)
unit_is_taken = (60, refl)

made_of_null : Tells derived (Convert (DictionaryType 1) values.Null) (takes_unit ∷ takes_unit ∷ takes_unit ∷ []) (Ends (Gives (DictionaryValue 1 (packed_members ((0, 0, integer 1) ∷ (1, 0, integer 9) ∷ [])))))
made_of_null = (60, (refl, tt, (refl, tt, (refl, tt, refl))))

-- `dictionary D { required long x; };`
abbrev with_required : DefsTerm
with_required = with_dictionaries (dictionary (codes "D") None (required_member (codes "x") long ∷ []) ∷ [])

required_of_null : Tells with_required (Convert (DictionaryType 0) values.Null) (takes_unit ∷ []) (Ends (Throw code.Required))
required_of_null = (60, (refl, tt, refl))

required_of_object : Tells with_required (Convert (DictionaryType 0) (values.Obj (plain 1))) (gets_name (plain 1) (codes "x") values.Undefined ∷ []) (Ends (Throw code.Required))
required_of_object = (60, (refl, tt, refl))

required_is_there : Tells with_required (Convert (DictionaryType 0) (values.Obj (plain 1))) (gets_name (plain 1) (codes "x") (number 5) ∷ []) (Ends (Gives (DictionaryValue 0 (packed_members ((0, 0, integer 5) ∷ [])))))
required_is_there = (60, (refl, tt, refl))

-- `dictionary E { long y = 4; long z; }; dictionary D { long x = 1; E e = {}; };`: the default `{}` takes the units of E
abbrev nested : DefsTerm
nested =
    with_dictionaries
    (dictionary (codes "E") None (optional_member (codes "y") long (Some (literals.Int (pos 4))) ∷ optional_member (codes "z") long None ∷ [])
    ∷ dictionary (codes "D") None (optional_member (codes "x") long (Some (literals.Int (pos 1))) ∷ optional_member (codes "e") (DictionaryType 0) (Some literals.EmptyDict) ∷ [])
    ∷ [])

nested_default : Tells nested (Convert (DictionaryType 1) values.Undefined) (takes_unit ∷ takes_unit ∷ takes_unit ∷ takes_unit ∷ []) (Ends (Gives (DictionaryValue 1 (packed_members ((1, 1, DictionaryValue 0 (packed_members ((0, 0, integer 4) ∷ []))) ∷ (1, 0, integer 1) ∷ [])))))
nested_default = (60, (refl, tt, (refl, tt, (refl, tt, (refl, tt, refl)))))

nested_is_asked : Tells nested (Convert (DictionaryType 1) (values.Obj (plain 1))) (gets_name (plain 1) (codes "e") (values.Obj (plain 2)) ∷ gets_name (plain 2) (codes "y") values.Undefined ∷ gets_name (plain 2) (codes "z") (number 6) ∷ []) (Asks (GetAsk (plain 1) (keys.Name (codes "x"))))
nested_is_asked = (60, (refl, tt, (refl, tt, (refl, tt, refl))))

-- 3. Names by their units: a capital comes before a small letter, and a name before one that it begins
abbrev names : DefsTerm
names = with_dictionaries (dictionary (codes "D") None (optional_member (codes "ab") long None ∷ optional_member (codes "a") long None ∷ optional_member (codes "B") long None ∷ []) ∷ [])

in_order_of_units : Tells names (Convert (DictionaryType 0) (values.Obj (plain 1))) (gets_name (plain 1) (codes "B") (number 1) ∷ gets_name (plain 1) (codes "a") (number 2) ∷ gets_name (plain 1) (codes "ab") (number 3) ∷ []) (Ends (Gives (DictionaryValue 0 (packed_members ((0, 2, integer 1) ∷ (0, 1, integer 2) ∷ (0, 0, integer 3) ∷ [])))))
in_order_of_units = (60, (refl, tt, (refl, tt, (refl, tt, refl))))

-- a dictionary that the list hasn't has no member
list_has_no_such : Tells nothing_defined (Convert (DictionaryType 7) (values.Obj (plain 1))) [] (Ends (Gives (DictionaryValue 7 (packed_members []))))
list_has_no_such = (60, refl)
