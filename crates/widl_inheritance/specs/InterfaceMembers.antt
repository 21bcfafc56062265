-- For proofs alone. The members of an interface with those of its partials and its mixins, by the number of its definition.
use Rattle.std.specs.Prelude.{if◌then◌else◌, ℕ, Bool, ◌&&◌, List, [], Option, None, Some, option_map, slice_get}
use Rattle.widl_idl.specs.declared.kind.Kind.TheVariants as kinds
use Rattle.widl_idl.specs.Meanings.{kind_of, main_name}
use Rattle.widl_idl.specs.Parts.{merged_members}
use Rattle.widl_idl.specs.PlainTypes.{PlainName}
use Rattle.widl_idl.specs.PlainTrees.{PlainDefinition, PlainKind, PlainMember}
use Rattle.widl_overload.specs.rules.MemberRules.{is_interface_kind}
use Rattle.widl_names.specs.PartTables.{means_itself}

-- whether a definition of this number is an interface that its name means
abbrev pub is_meant_interface : List PlainDefinition → ℕ → PlainKind → Bool
is_meant_interface definitions number kind = is_interface_kind (kind_of kind) && means_itself definitions number (main_name kind)

abbrev pub members_named : List PlainDefinition → Option PlainName → List PlainMember
members_named definitions None = []
members_named definitions (Some name) = merged_members definitions kinds.Interface name.text

abbrev pub members_of_kind : List PlainDefinition → ℕ → Option PlainKind → List PlainMember
members_of_kind definitions number None = []
members_of_kind definitions number (Some kind) = if is_meant_interface definitions number kind then members_named definitions (main_name kind) else []

-- the members in merged order of the interface of this number; none where the definition of the number is no interface, or its name means another
unfoldable pub members_at : List PlainDefinition → ℕ → List PlainMember
members_at definitions number = members_of_kind definitions number (option_map (λ (d : PlainDefinition). d.kind) (slice_get definitions number))
