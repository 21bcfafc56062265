-- For proofs alone. The rules on members, asked of one owner and of all.
use Rattle.std.specs.Prelude.{◌≡◌, ℕ, Bool, true, ◌&&◌, List, length, Some}
use Rattle.widl_idl.specs.declared.kind.Kind.{Kind}
use Rattle.widl_idl.specs.declared.violation.Violation.{Violation}
use Rattle.widl_idl.specs.First.{AtOne}
use Rattle.widl_idl.specs.Meanings.{kind_of, main_name, meaning}
use Rattle.widl_idl.specs.Parts.{merged_members}
use Rattle.widl_idl.specs.PlainTypes.{PlainName}
use Rattle.widl_idl.specs.PlainTrees.{PlainDefinition, PlainKind, PlainMember}
use Rattle.widl_overload.specs.declared.validity_rule.ValidityRule.{ValidityRule}
use Rattle.widl_overload.specs.rules.MemberRules.{has_members_of_its_own}
use Rattle.widl_overload.specs.rules.OnMembers.{BreaksMember, asks}
use Rattle.widl_names.specs.PartTables.{means_itself}

-- one of these members of an owner of this kind breaks the rule, which asks the kind
abbrev pub InMembers : Kind → List PlainMember → (Kind → Bool) → (List PlainMember → PlainMember → Violation → Type 0) → Violation → Type 0
InMembers kind members asked Breaks s = (asked kind ≡ true) × AtOne Breaks members s

-- one of the members of the definition of this number, which its name means, breaks the rule
pub record InOwner (definitions : List PlainDefinition) (number : ℕ) (kind : PlainKind) (asked : Kind → Bool) (Breaks : List PlainMember → PlainMember → Violation → Type 0) (s : Violation) : Type 0 where
  pub name : PlainName
  pub is_main : main_name kind ≡ Some name
  pub means : meaning definitions name.text ≡ Some number
  pub breaks : InMembers (kind_of kind) (merged_members definitions (kind_of kind) name.text) asked Breaks s

abbrev pub InOwnerAt : List PlainDefinition → (Kind → Bool) → (List PlainMember → PlainMember → Violation → Type 0) → List PlainDefinition → PlainDefinition → Violation → Type 0
InOwnerAt definitions asked Breaks before d s = InOwner definitions (length before) d.kind asked Breaks s

-- one of these definitions has members that break the rule
abbrev pub InDefinitions : List PlainDefinition → List PlainDefinition → (Kind → Bool) → (List PlainMember → PlainMember → Violation → Type 0) → Violation → Type 0
InDefinitions definitions some asked Breaks s = AtOne (InOwnerAt definitions asked Breaks) some s

-- whether a definition of this number is an interface or a namespace that its name means
abbrev pub is_owner : List PlainDefinition → ℕ → PlainKind → Bool
is_owner definitions number kind = has_members_of_its_own (kind_of kind) && means_itself definitions number (main_name kind)

-- the members of this owner break the rule
abbrev pub MembersBreak : List PlainDefinition → Kind → List PlainMember → ValidityRule → Violation → Type 0
MembersBreak definitions kind members which s = InMembers kind members (asks which) (BreaksMember definitions which) s

-- the definition of this number, which its name means, breaks it
abbrev pub OwnerBreaks : List PlainDefinition → ℕ → PlainKind → ValidityRule → Violation → Type 0
OwnerBreaks definitions number kind which s = InOwner definitions number kind (asks which) (BreaksMember definitions which) s

-- one of these definitions breaks it
abbrev pub OwnersBreak : List PlainDefinition → List PlainDefinition → ValidityRule → Violation → Type 0
OwnersBreak definitions some which s = InDefinitions definitions some (asks which) (BreaksMember definitions which) s
