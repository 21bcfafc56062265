-- Whether a stringifier stands before, and the first violation of one that follows another.
use Rattle.std.proofs.Common.{◌≡◌, ℕ, ◌+◌, ◌<◌, ◌≤◌, Bool, true, false, ◌||◌, List, [], length, take, get_or, Option, None, Some, is_some, refl, sym, ap, ◌∙◌, Bor}
use Rattle.widl_text.specs.declared.place.Place.{Place}
use Rattle.widl_idl.specs.declared.violation.Violation.{Violation}
use Rattle.widl_idl.specs.declared.tree.members.AttributeKind.{AttributeKind}
use Rattle.widl_idl.specs.declared.tree.members.AttributeKind.TheVariants as attribute_kind
use Rattle.widl_idl.specs.declared.tree.members.Member.{Member}
use Rattle.widl_idl.specs.First.{AtOne, FirstWhere, earlier}
use Rattle.widl_idl.specs.MergedMembers.{has, is_stringifier, is_stringifier_attribute}
use Rattle.widl_idl.specs.PlainTrees.{PlainMember, PlainMemberKind, AttributeMember, StringifierMember, member_of}
use Rattle.widl_idl.proofs.Order.{one_place}
use Rattle.widl_overload.specs.rules.MemberRules.{AtPlace, IsSecondStringifier, stringifier_place, word_of_attribute}
use Rattle.widl_member_rules.specs.MemberTables.{violation_after}
use Rattle.widl_names.proofs.MappedLoops.{any_push, at_one_end, at_one_step, listed_next, none_at_one}
use Rattle.widl_member_rules.proofs.NamedViolations.{nowhere}
use Rattle.widl_names.specs.Listings.{listed_members}

-- a stringifier is what has the word
attribute_word : (kind : AttributeKind) → is_stringifier_attribute kind ≡ is_some (word_of_attribute kind)
attribute_word (attribute_kind.Stringifier place) = refl
attribute_word kind = refl

member_word : (kind : PlainMemberKind) → is_stringifier kind ≡ is_some (stringifier_place kind)
member_word (StringifierMember at) = refl
member_word (AttributeMember a) = attribute_word a.kind
member_word kind = refl

after_first : (Q : Type 0) (seen : Bool) (place : Option Place) (found : Option Violation) → (seen ≡ true → Q) → (seen ≡ false → Q → ⊥) → found ≡ violation_after seen place → FirstWhere (λ s. Q × AtPlace place s) found
after_first Q seen None found holds fails e = nowhere (λ s. Q × AtPlace None s) found (λ s h. h.1) e
after_first Q seen (Some place) found holds fails e = one_place Q place seen found holds fails e

-- whether a stringifier is among the members, and the first violation of one that follows another
pub record Seen (seen : Bool) (members : List PlainMember) (best : Option Violation) : Type 0 where
  pub one : seen ≡ has is_stringifier members
  pub earliest : FirstWhere (AtOne IsSecondStringifier members) best

pub nothing_seen : Seen false [] None
nothing_seen = record { one = refl; earliest = none_at_one IsSecondStringifier }

-- one member more
pub seen_step : (seen now_seen : Bool) (members : List (Bor Member)) (i : ℕ) (m : Bor Member) (place : Option Place) (best found now : Option Violation) → i < length members → m ≡ get_or members i m
    → place ≡ stringifier_place (member_of m.now).kind → found ≡ violation_after seen place → now ≡ earlier best found → now_seen ≡ (seen || is_some place)
    → Seen seen (listed_members (take i members)) best → Seen now_seen (listed_members (take (i + 1) members)) now
seen_step seen now_seen members i m place best found now below is p f e adds r =
    let before = listed_members (take i members) in
    let kind = (member_of m.now).kind in
    let one = r.one in
    record {
      one = adds ∙ ap (λ b. b || is_some place) r.one ∙ ap (λ at. has is_stringifier before || is_some at) p ∙ ap (λ b. has is_stringifier before || b) (sym (member_word kind))
          ∙ sym (any_push (λ (x : PlainMember). is_stringifier x.kind) before (member_of m.now)) ∙ ap (has is_stringifier) (sym (listed_next members i m below is));
      earliest = at_one_step (λ (x : Bor Member). member_of x.now) members IsSecondStringifier i m best found now below is e
          (after_first (has is_stringifier before ≡ true) seen (stringifier_place kind) found (λ h. sym one ∙ h) (λ h q. absurd (cc)) (f ∙ ap (violation_after seen) p)) r.earliest;
    }

pub seen_end : (seen : Bool) (members : List (Bor Member)) (i : ℕ) (best : Option Violation) → length members ≤ i → Seen seen (listed_members (take i members)) best → FirstWhere (AtOne IsSecondStringifier (listed_members members)) best
seen_end seen members i best past r = at_one_end (λ (x : Bor Member). member_of x.now) members IsSecondStringifier i best past r.earliest
