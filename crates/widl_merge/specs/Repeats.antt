-- For proofs alone. Operations that an earlier part has too, as the program finds them.
use Rattle.std.specs.Prelude.{if◌then◌else◌, ◌≡◌, ℕ, Bool, ◌&&◌, List, length, Option, None, Some, bytes_eq}
use Rattle.widl_idl.specs.declared.violation.Violation.{Violation}
use Rattle.widl_idl.specs.First.{AtOne, violation_at}
use Rattle.widl_idl.specs.Meanings.{kind_of, main_name, meaning}
use Rattle.widl_idl.specs.MergingRules.{RepeatsOperation, is_static}
use Rattle.widl_idl.specs.Parts.{parts_of}
use Rattle.widl_idl.specs.PlainTypes.{PlainName}
use Rattle.widl_idl.specs.PlainTrees.{PlainDefinition, PlainKind, PlainMember, PlainMemberKind, OperationMember}
use Rattle.widl_names.specs.PartTables.{has_parts, means_itself}

-- the place of a name that is known
abbrev pub known_name : (List ℕ → Bool → Bool) → Bool → Option PlainName → Option Violation
known_name known static None = None
known_name known static (Some name) = if known name.text static then Some (violation_at name.at) else None

-- the place of the name of an operation that is known
abbrev pub known_at : (List ℕ → Bool → Bool) → PlainMemberKind → Option Violation
known_at known (OperationMember o) = known_name known (is_static o.kind) o.name
known_at known kind = None

abbrev pub IsKnown : (List ℕ → Bool → Bool) → PlainMember → Violation → Type 0
IsKnown known member s = known_at known member.kind ≡ Some s

-- whether a definition of this number is an interface, a mixin or a namespace that its name means
abbrev pub is_owner : List PlainDefinition → ℕ → PlainKind → Bool
is_owner definitions number kind = has_parts (kind_of kind) && means_itself definitions number (main_name kind)

-- the definition of this number, which its name means, has operations of one name in two of its parts
pub record RepeatsInOwner (definitions : List PlainDefinition) (number : ℕ) (kind : PlainKind) (s : Violation) : Type 0 where
  pub name : PlainName
  pub is_main : main_name kind ≡ Some name
  pub means : meaning definitions name.text ≡ Some number
  pub repeats : AtOne RepeatsOperation (parts_of definitions (kind_of kind) name.text) s

abbrev pub RepeatsAt : List PlainDefinition → List PlainDefinition → PlainDefinition → Violation → Type 0
RepeatsAt definitions before d s = RepeatsInOwner definitions (length before) d.kind s
