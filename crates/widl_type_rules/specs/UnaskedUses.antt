-- For proofs alone. Types of which no rule on types asks what they mean.
use Rattle.std.specs.Prelude.{Bool, true, false, ◌&&◌, None, Some}
use Rattle.widl_idl.specs.PlainTypes.{PlainForm, PlainType, PlainUndefined, PlainUnion, plain_type}
use Rattle.widl_overload.specs.declared.type_role.TypeRole.{TypeRole}
use Rattle.widl_overload.specs.declared.type_role.TypeRole.TheVariants as role
use Rattle.widl_overload.specs.rules.TypeUses.{TypeUse}
use Rattle.widl_type_rules.specs.SettledUses.{are_none}

-- a whole return type, or one inside another type that is no member of a union
abbrev pub is_inner_role : TypeRole → Bool
is_inner_role role.Returned = true
is_inner_role role.Promised = true
is_inner_role role.Inner = true
is_inner_role other = false

abbrev pub is_bare_form : PlainForm → Bool
is_bare_form PlainUndefined = false
is_bare_form (PlainUnion members) = false
is_bare_form form = true

-- such a form with no `?`
abbrev pub is_bare : PlainType → Bool
is_bare (plain_type at form None) = is_bare_form form
is_bare (plain_type at form (Some question)) = false

-- such a type with no annotation
abbrev pub is_unasked : TypeUse → Bool
is_unasked u = (is_inner_role u.role && are_none u.attributes) && is_bare u.ty
