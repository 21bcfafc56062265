-- What nodes, members and definitions break, with one more of them, and by what their types mean or by their owner.
use Rattle.std.proofs.Common.{◌≡◌, ◌⊎◌, inl, inr, ◌++◌, false, List, [], ◌∷◌, sym, subst}
use Rattle.std.proofs.lemmas.List.{map-append}
use Rattle.widl_idl.specs.declared.violation.Violation.{Violation}
use Rattle.widl_idl.specs.PlainTrees.{PlainDefinition, PlainMember}
use Rattle.widl_idl.specs.Nodes.{Node, MemberNode, nodes_of, nodes_of_definition}
use Rattle.widl_first.specs.First.{Either}
use Rattle.widl_overload.specs.declared.validity_rule.ValidityRule.{ValidityRule}
use Rattle.widl_overload.specs.declared.validity_rule.ValidityRule.TheVariants as rule
use Rattle.widl_overload.specs.rules.OnMembers.{BreaksNode, ByOwner, ByType, InOneMember, NodesBreak}
use Rattle.widl_member_rules.specs.MemberTypes.{member_nodes, own_members}
use Rattle.widl_refusals.proofs.FirstRefusals.{item_pushed, list_pushed}
use Rattle.widl_member_rules.proofs.MemberNodes.{definition_same, is_member}

module _ (definitions : List PlainDefinition) where
  -- the rules speak of members alone
  alone : (which : ValidityRule) (t : Node) → is_member t ≡ false → (s : Violation) → BreaksNode definitions which t s → ⊥
  alone rule.OtherConstantValue (MemberNode kind) e s h = absurd (cc)
  alone rule.OtherConstantValue t e s h = h
  alone rule.WritablePromise (MemberNode kind) e s h = absurd (cc)
  alone rule.WritablePromise t e s h = h
  alone rule.Stringifiers (MemberNode kind) e s h = absurd (cc)
  alone rule.Stringifiers t e s h = h
  alone other t e s h = h

  pub member_pushed : (before : List PlainMember) (m : PlainMember) (which : ValidityRule) → Either (NodesBreak definitions (member_nodes before) which) (BreaksNode definitions which (MemberNode m.kind)) (NodesBreak definitions (member_nodes (before ++ m ∷ [])) which)
  member_pushed before m which =
      let node : PlainMember → Node = λ (x : PlainMember). MemberNode x.kind in
      subst (λ nodes. Either (NodesBreak definitions (member_nodes before) which) (BreaksNode definitions which (MemberNode m.kind)) (NodesBreak definitions nodes which)) (sym (map-append node before (m ∷ []))) (item_pushed (BreaksNode definitions which) (member_nodes before) (MemberNode m.kind))

  pub definition_pushed : (before : List PlainDefinition) (d : PlainDefinition) (which : ValidityRule) → Either (NodesBreak definitions (nodes_of before) which) (NodesBreak definitions (member_nodes (own_members d.kind)) which) (NodesBreak definitions (nodes_of (before ++ d ∷ [])) which)
  definition_pushed before d which =
      let P = BreaksNode definitions which in
      let same = definition_same P (alone which) d in
      let pushed = list_pushed P nodes_of_definition before d in
      record { left = pushed.left; right = λ s h. pushed.right s (same.0 s h); only = λ s h. elim (pushed.only s h) [ inl l ↦ inl l | inr r ↦ inr (same.1 s r) ] }

  pub either_way : (which : ValidityRule) → Either (ByOwner definitions which) (ByType definitions which) (InOneMember definitions which)
  either_way which = record { left = λ s o. inr o; right = λ s t. inl t; only = λ s h. elim h [ inl t ↦ inr t | inr o ↦ inl o ] }
