-- The rules of validity on members: by themselves with what their types mean, and among those of their owner.
use Rattle.std.specs.Prelude.{◌⊎◌, Bool, List, [], ◌∷◌}
use Rattle.widl_idl.specs.declared.kind.Kind.{Kind}
use Rattle.widl_idl.specs.declared.violation.Violation.{Violation}
use Rattle.widl_idl.specs.First.{Somewhere}
use Rattle.widl_idl.specs.Nodes.{Node, nodes_of}
use Rattle.widl_idl.specs.PlainTrees.{PlainDefinition, PlainMember}
use Rattle.widl_overload.specs.declared.validity_rule.ValidityRule.{ValidityRule}
use Rattle.widl_overload.specs.declared.validity_rule.ValidityRule.TheVariants as rule
use Rattle.widl_overload.specs.rules.MemberRules.{HasKeptName, HasOverloadPastLimit, InOneOwner, IsSecondStringifier, MixesPromises, RepeatsMember, has_members_of_its_own, is_interface_kind}
use Rattle.widl_overload.specs.rules.TypeRules.{HasOtherValue, IsOtherStringifier, IsWritablePromise}

abbrev pub member_rules : List ValidityRule
member_rules = rule.OtherConstantValue ∷ rule.WritablePromise ∷ rule.Stringifiers ∷ rule.PromisesAndOthers ∷ rule.RepeatedMember ∷ rule.KeptName ∷ rule.TooManyOverloads ∷ []

-- the kinds of owners that a rule on members asks
abbrev pub asks : ValidityRule → Kind → Bool
asks rule.KeptName = is_interface_kind
asks rule.Stringifiers = is_interface_kind
asks other = has_members_of_its_own

module _ (definitions : List PlainDefinition) where
  -- a node breaks the rule; none breaks one that isn't on what the type of a member means
  abbrev pub BreaksNode : ValidityRule → Node → Violation → Type 0
  BreaksNode rule.OtherConstantValue node = HasOtherValue definitions node
  BreaksNode rule.WritablePromise node = IsWritablePromise definitions node
  BreaksNode rule.Stringifiers node = IsOtherStringifier definitions node
  BreaksNode other node = λ s. ⊥

  -- a member of an owner, seen with those before it, breaks the rule; none breaks one that isn't on the members of owners
  abbrev pub BreaksMember : ValidityRule → List PlainMember → PlainMember → Violation → Type 0
  BreaksMember rule.Stringifiers = IsSecondStringifier
  BreaksMember rule.PromisesAndOthers = MixesPromises definitions
  BreaksMember rule.RepeatedMember = RepeatsMember
  BreaksMember rule.KeptName = HasKeptName
  BreaksMember rule.TooManyOverloads = HasOverloadPastLimit
  BreaksMember other = λ before m s. ⊥

  -- one of the nodes breaks the rule
  abbrev pub NodesBreak : List Node → ValidityRule → Violation → Type 0
  NodesBreak nodes which s = Somewhere (BreaksNode which) nodes s

  -- one of the members breaks the rule by what its type means
  abbrev pub ByType : ValidityRule → Violation → Type 0
  ByType which s = NodesBreak (nodes_of definitions) which s

  -- one of them breaks it among the members of an interface or a namespace
  abbrev pub ByOwner : ValidityRule → Violation → Type 0
  ByOwner which s = InOneOwner (asks which) (BreaksMember which) definitions s

  -- one of the members breaks the rule
  abbrev pub InOneMember : ValidityRule → Violation → Type 0
  InOneMember which s = ByType which s ⊎ ByOwner which s
