-- For proofs alone. What members may share with others of their owner: a name, or none, as constructors have it.
use Rattle.std.specs.Prelude.{◌≡◌, Bool, true, false, ℕ, List, [], Option, None, Some, bytes_eq}
use Rattle.std.specs.List.{list_any}
use Rattle.widl_idl.specs.declared.violation.Violation.{Violation}
use Rattle.widl_idl.specs.MergedMembers.{operation_text}
use Rattle.widl_idl.specs.PlainTrees.{PlainMember, PlainMemberKind, ConstantMember, AttributeMember, OperationMember, ConstructorMember}

-- the name of a constant, an attribute or an operation; the empty text of an operation without a name and of a constructor
abbrev pub label : PlainMemberKind → Option (List ℕ)
label (ConstantMember c) = Some c.name.text
label (AttributeMember a) = Some a.name.text
label (OperationMember o) = Some (operation_text o.name)
label (ConstructorMember c) = Some []
label kind = None

abbrev pub is_label : List ℕ → Option (List ℕ) → Bool
is_label text None = false
is_label text (Some other) = bytes_eq other text

abbrev pub has_label : List ℕ → PlainMember → Bool
has_label text m = is_label text (label m.kind)

abbrev pub any_labeled : List PlainMember → Option (List ℕ) → Bool
any_labeled members None = false
any_labeled members (Some text) = list_any (has_label text) members

-- one of the members before has the label of this one
abbrev pub SharesLabel : List PlainMember → PlainMember → Violation → Type 0
SharesLabel before m s = any_labeled before (label m.kind) ≡ true
