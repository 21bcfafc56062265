-- The names of members that stand before, and the first violation at which a member repeats one.
use Rattle.std.proofs.Common.{◌≡◌, ℕ, ◌+◌, ◌<◌, ◌≤◌, Bool, true, false, ◌&&◌, ◌||◌, not, List, [], length, take, get_or, Option, None, sym, ap, ◌∙◌, Bor}
use Rattle.std.specs.List.{list_any}
use Rattle.widl_idl.specs.declared.violation.Violation.{Violation}
use Rattle.widl_idl.specs.declared.tree.members.Member.{Member}
use Rattle.widl_idl.specs.First.{AtOne, FirstWhere, earlier}
use Rattle.widl_idl.specs.PlainTypes.{PlainName}
use Rattle.widl_idl.specs.PlainTrees.{PlainMember, member_of}
use Rattle.widl_overload.specs.rules.MemberRules.{RepeatsMember, identifier, is_named, is_operation}
use Rattle.widl_member_rules.specs.MemberTables.{violation_of_name}
use Rattle.widl_names.proofs.MappedLoops.{any_push, at_one_end, at_one_step, listed_next, none_at_one}
use Rattle.widl_member_rules.proofs.NamedViolations.{named_first}
use Rattle.widl_names.specs.Listings.{listed_members}

-- whether a member has this name, and one that is an operation or not may not have it too
abbrev pub forbids : List ℕ → Bool → PlainMember → Bool
forbids text operation m = is_named text (identifier m.kind) && not (is_operation m.kind && operation)

-- the names of the members are known, and the first violation at which a member repeats one
pub record Repeated (clash : List ℕ → Bool → Bool) (members : List PlainMember) (best : Option Violation) : Type 0 where
  pub names : (text : List ℕ) (operation : Bool) → clash text operation ≡ list_any (forbids text operation) members
  pub earliest : FirstWhere (AtOne RepeatsMember members) best

pub nothing_repeated : (clash : List ℕ → Bool → Bool) → ((text : List ℕ) (operation : Bool) → clash text operation ≡ false) → Repeated clash [] None
nothing_repeated clash none = record { names = none; earliest = none_at_one RepeatsMember }

module _ (clash : List ℕ → Bool → Bool) (before : List PlainMember) (same : (text : List ℕ) (operation : Bool) → clash text operation ≡ list_any (forbids text operation) before) where
  repeats_first : (m : PlainMember) (found : Option Violation) → found ≡ violation_of_name (identifier m.kind) (λ text. clash text (is_operation m.kind)) → FirstWhere (RepeatsMember before m) found
  repeats_first m found e =
      named_first (λ (name : PlainName). list_any (forbids name.text (is_operation m.kind)) before ≡ true) (λ text. clash text (is_operation m.kind)) (identifier m.kind) found
      (λ n is h. sym (same n.text (is_operation m.kind)) ∙ h) (λ n is h q. absurd (let s = same n.text (is_operation m.kind) in (cc))) e

-- one member more
pub repeated_step : (clash now_clash : List ℕ → Bool → Bool) (members : List (Bor Member)) (i : ℕ) (m : Bor Member) (best found now : Option Violation) → i < length members → m ≡ get_or members i m
    → found ≡ violation_of_name (identifier (member_of m.now).kind) (λ text. clash text (is_operation (member_of m.now).kind)) → now ≡ earlier best found
    → ((text : List ℕ) (operation : Bool) → now_clash text operation ≡ (clash text operation || forbids text operation (member_of m.now)))
    → Repeated clash (listed_members (take i members)) best → Repeated now_clash (listed_members (take (i + 1) members)) now
repeated_step clash now_clash members i m best found now below is f e adds r =
    let before = listed_members (take i members) in
    record {
      names = λ text operation. adds text operation ∙ ap (λ b. b || forbids text operation (member_of m.now)) (r.names text operation) ∙ sym (any_push (forbids text operation) before (member_of m.now)) ∙ ap (list_any (forbids text operation)) (sym (listed_next members i m below is));
      earliest = at_one_step (λ (x : Bor Member). member_of x.now) members RepeatsMember i m best found now below is e (repeats_first clash before r.names (member_of m.now) found f) r.earliest;
    }

pub repeated_end : (clash : List ℕ → Bool → Bool) (members : List (Bor Member)) (i : ℕ) (best : Option Violation) → length members ≤ i → Repeated clash (listed_members (take i members)) best → FirstWhere (AtOne RepeatsMember (listed_members members)) best
repeated_end clash members i best past r = at_one_end (λ (x : Bor Member). member_of x.now) members RepeatsMember i best past r.earliest
