-- For proofs alone. Types that break no rule on types, as is seen without what they mean: those of one word and the names of definitions that are no typedefs, with no annotation and no `?`.
use Rattle.std.specs.Prelude.{Bool, true, false, ◌&&◌, not, List, [], ◌∷◌, Option, None, Some}
use Rattle.widl_idl.specs.declared.kind.Kind.{Kind}
use Rattle.widl_idl.specs.declared.kind.Kind.TheVariants as kinds
use Rattle.widl_idl.specs.Meanings.{meant_kind}
use Rattle.widl_idl.specs.PlainTrees.{PlainDefinition}
use Rattle.widl_idl.specs.PlainTypes.{PlainAttribute, PlainForm, PlainType, PlainAny, PlainUndefined, PlainBoolean, PlainObject, PlainInteger, PlainText, PlainNamed, plain_type}
use Rattle.widl_overload.specs.declared.type_role.TypeRole.{TypeRole}
use Rattle.widl_overload.specs.rules.TypeRules.{is_attribute_role, is_constant_role, takes_undefined}
use Rattle.widl_overload.specs.rules.TypeUses.{TypeUse}

-- the name of a definition of this kind; an attribute's type may be no dictionary
abbrev pub is_settled_kind : TypeRole → Option Kind → Bool
is_settled_kind role None = false
is_settled_kind role (Some kinds.Typedef) = false
is_settled_kind role (Some kinds.Dictionary) = not (is_attribute_role role)
is_settled_kind role (Some kind) = true

abbrev pub is_settled_form : List PlainDefinition → TypeRole → PlainForm → Bool
is_settled_form definitions role PlainAny = true
is_settled_form definitions role PlainBoolean = true
is_settled_form definitions role PlainObject = true
is_settled_form definitions role (PlainInteger kind) = true
is_settled_form definitions role (PlainText kind) = true
is_settled_form definitions role PlainUndefined = takes_undefined role
is_settled_form definitions role (PlainNamed name) = is_settled_kind role (meant_kind definitions name.text)
is_settled_form definitions role form = false

abbrev pub is_settled_type : List PlainDefinition → TypeRole → PlainType → Bool
is_settled_type definitions role (plain_type at form None) = is_settled_form definitions role form
is_settled_type definitions role (plain_type at form (Some question)) = false

abbrev pub are_none : List PlainAttribute → Bool
are_none [] = true
are_none (a ∷ more) = false

-- such a type, which is none of a constant
abbrev pub is_settled : List PlainDefinition → TypeUse → Bool
is_settled definitions u = (not (is_constant_role u.role) && are_none u.attributes) && is_settled_type definitions u.role u.ty
