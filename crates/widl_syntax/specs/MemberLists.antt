-- For proofs alone. The rules of the lists of members.
use Rattle.widl_grammar.specs.declared.rule.Rule.{Rule}
use Rattle.widl_grammar.specs.declared.rule.Rule.TheVariants as rule
use Rattle.widl_syntax.specs.declared.build.members.MemberList.{MemberList}
use Rattle.widl_syntax.specs.declared.build.members.MemberList.TheVariants.{Interface, PartialInterface, Mixin, Namespace, CallbackInterface}

abbrev pub members_rule : MemberList → Rule
members_rule Interface = rule.InterfaceMembers
members_rule PartialInterface = rule.PartialMembers
members_rule Mixin = rule.MixinMembers
members_rule Namespace = rule.NamespaceMembers
members_rule CallbackInterface = rule.CallbackMembers

abbrev pub member_rule : MemberList → Rule
member_rule Interface = rule.InterfaceMember
member_rule PartialInterface = rule.Member
member_rule Mixin = rule.MixinMember
member_rule Namespace = rule.NamespaceMember
member_rule CallbackInterface = rule.CallbackMember
