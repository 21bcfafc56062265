-- For proofs alone. Which arguments lack a default value, as the program tests it.
use Rattle.std.specs.Prelude.{◌≡◌, Bool, true, false, List, None, Some}
use Rattle.std.specs.List.{list_any}
use Rattle.widl_idl.specs.declared.literal.Literal.TheVariants as the
use Rattle.widl_idl.specs.declared.violation.Violation.{Violation}
use Rattle.widl_idl.specs.DefinitionTerms.{DefsTerm}
use Rattle.widl_idl.specs.Flattened.{flattened_member}
use Rattle.widl_idl.specs.MergingRules.{IsAt}
use Rattle.widl_idl.specs.PlainTypes.{PlainForm, PlainType, PlainNamed, PlainUnion, plain_type}
use Rattle.widl_idl.specs.PlainTrees.{PlainArgument, PlainArgumentKind, RequiredArgument, OptionalArgument, VariadicArgument, PlainDefinition}
use Rattle.widl_idl.specs.Terms.{TypeTerm, NullableType}
use Rattle.widl_idl.specs.WrittenTypes.{meaning_with}
use Rattle.widl_overload.specs.rules.DefaultRules.{TakesNoMember}
use Rattle.widl_fits.specs.declared.tables.Tables.{Tables}
use Rattle.widl_fits.specs.Fitting.{takes}

-- whether an argument of a dictionary type has no default value where it needs one, and a call may leave out all that follow
abbrev pub needs_default : Bool → PlainArgumentKind → Bool
needs_default absent RequiredArgument = absent
needs_default absent (OptionalArgument None) = true
needs_default absent (OptionalArgument (Some default)) = false
needs_default absent (VariadicArgument ellipsis) = false

-- the forms in which a dictionary type, or a union with one, may be written
abbrev pub is_name_or_union : PlainForm → Bool
is_name_or_union (PlainNamed name) = true
is_name_or_union (PlainUnion members) = true
is_name_or_union form = false

-- whether a type may take a dictionary, by its form and its `?` alone
abbrev pub may_take_dictionary : PlainType → Bool
may_take_dictionary (plain_type at form None) = is_name_or_union form
may_take_dictionary (plain_type at form (Some question)) = false

-- whether the empty dictionary is a value of a type that is not nullable
abbrev pub takes_no_member : Tables → TypeTerm → Bool
takes_no_member tables (NullableType t) = false
takes_no_member tables t = list_any (takes tables the.EmptyDict) (flattened_member t)

-- an argument takes a dictionary without required members and lacks a default value: at its name
abbrev pub LacksHere : DefsTerm → List PlainDefinition → Bool → PlainArgument → Violation → Type 0
LacksHere list definitions absent a s = (TakesNoMember list definitions (meaning_with definitions a.attributes a.ty) × (needs_default absent a.kind ≡ true)) × IsAt a.name.at s
