-- The first violation at a name.
use Rattle.std.proofs.Common.{◌≡◌, ℕ, Bool, true, false, List, Option, None, Some, refl, sym, subst}
use Rattle.widl_idl.specs.declared.violation.Violation.{Violation}
use Rattle.widl_idl.specs.First.{FirstWhere}
use Rattle.widl_idl.specs.MergingRules.{AtName}
use Rattle.widl_idl.specs.PlainTypes.{PlainName}
use Rattle.widl_idl.specs.PlainTrees.{PlainMember}
use Rattle.widl_idl.proofs.Order.{one_place}
use Rattle.widl_overload.specs.rules.MemberRules.{HasKeptName, identifier, is_kept_name}
use Rattle.widl_member_rules.specs.MemberTables.{violation_of_name}

-- nothing breaks where no violation is
pub nowhere : (P : Violation → Type 0) (found : Option Violation) → ((s : Violation) → P s → ⊥) → found ≡ None → FirstWhere P found
nowhere P found none e = subst (FirstWhere P) (sym e) none

module _ (Q : PlainName → Type 0) (test : List ℕ → Bool) where
  -- a rule about a name: its place where the test holds
  pub named_first : (name : Option PlainName) (found : Option Violation) → ((n : PlainName) → name ≡ Some n → test n.text ≡ true → Q n) → ((n : PlainName) → name ≡ Some n → test n.text ≡ false → Q n → ⊥)
      → found ≡ violation_of_name name test → FirstWhere (AtName name Q) found
  named_first None found holds fails e = nowhere (AtName None Q) found (λ t q. q) e
  named_first (Some name) found holds fails e = one_place (Q name) name.at (test name.text) found (holds name refl) (fails name refl) e

pub kept_first : (before : List PlainMember) (m : PlainMember) (found : Option Violation) → found ≡ violation_of_name (identifier m.kind) (is_kept_name m.kind) → FirstWhere (HasKeptName before m) found
kept_first before m found e = named_first (λ name. is_kept_name m.kind name.text ≡ true) (is_kept_name m.kind) (identifier m.kind) found (λ n is h. h) (λ n is h q. absurd (cc)) e
