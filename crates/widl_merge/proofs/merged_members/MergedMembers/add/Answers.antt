use Rattle.std.proofs.Common.{List, map, subst}
use Rattle.std.proofs.lemmas.Result.{IfOk-weaker}
use Rattle.widl_idl.specs.declared.interface.Stringify.TheVariants as stringify
use Rattle.widl_idl.specs.declared.tree.members.MemberKind.TheVariants as kind
use Rattle.widl_idl.specs.PlainTrees.{ConstantMember, ConstructorMember, IterableMember, constant_of, constructor_of, iterable_of, member_of, plain_definitions}
use Rattle.widl_idl.specs.PlainTypes.{PlainAttribute, attribute_of}
use Rattle.widl_merge.specs.PutTogether.{GetsStringifier, Grows, GrowsByMember, number_named}
use Rattle.widl_merge.proofs.Gathering.{unsupported_more, of_kind, stringifier_more}
use Rattle.widl_merge.proofs.merged_members.MergedMembers.add.Goals as goal

pub returns-in-Constant : goal.returns-in-Constant
returns-in-Constant c =
    let number = number_named c.args.numbers.now.regular c.args.numbers.now.fixed in
    IfOk-weaker c.add_constant.result (λ x. (attributes : List PlainAttribute) → Grows (plain_definitions c.args.resolver.now) attributes (ConstantMember (constant_of c.deref.result.now)) c.args.self.now c.add_constant.new.self) (λ x. GrowsByMember (plain_definitions c.args.resolver.now) (member_of c.args.member.now) c.args.self.now number c.add_constant.new.self number)
    (λ x grows members g. of_kind (plain_definitions c.args.resolver.now) members c.args.member.now (kind.Constant c.in-Constant.constant) c.add_constant.new.self number c.in-Constant.is (subst (λ m. Grows (plain_definitions c.args.resolver.now) (map attribute_of c.args.member.now.attributes) (ConstantMember (constant_of m)) c.args.self.now c.add_constant.new.self) c.deref.ensures (grows (map attribute_of c.args.member.now.attributes)) members number g))
    c.add_constant.ensures

pub returns-in-Constructor : goal.returns-in-Constructor
returns-in-Constructor c =
    let number = number_named c.args.numbers.now.regular c.args.numbers.now.fixed in
    IfOk-weaker c.add_constructor.result (λ x. (attributes : List PlainAttribute) → Grows (plain_definitions c.args.resolver.now) attributes (ConstructorMember (constructor_of c.in-Constructor.constructor)) c.args.self.now c.add_constructor.new.self) (λ x. GrowsByMember (plain_definitions c.args.resolver.now) (member_of c.args.member.now) c.args.self.now number c.add_constructor.new.self number)
    (λ x grows members g. of_kind (plain_definitions c.args.resolver.now) members c.args.member.now (kind.Constructor c.in-Constructor.constructor) c.add_constructor.new.self number c.in-Constructor.is (grows (map attribute_of c.args.member.now.attributes) members number g))
    c.add_constructor.ensures

pub returns-in-Iterable : goal.returns-in-Iterable
returns-in-Iterable c =
    let number = number_named c.args.numbers.now.regular c.args.numbers.now.fixed in
    IfOk-weaker c.add_iterable.result (λ x. (attributes : List PlainAttribute) → Grows (plain_definitions c.args.resolver.now) attributes (IterableMember (iterable_of c.deref-in-Iterable.result.now)) c.args.self.now c.add_iterable.new.self) (λ x. GrowsByMember (plain_definitions c.args.resolver.now) (member_of c.args.member.now) c.args.self.now number c.add_iterable.new.self number)
    (λ x grows members g. of_kind (plain_definitions c.args.resolver.now) members c.args.member.now (kind.Iterable c.in-Iterable.iterable) c.add_iterable.new.self number c.in-Iterable.is (subst (λ m. Grows (plain_definitions c.args.resolver.now) (map attribute_of c.args.member.now.attributes) (IterableMember (iterable_of m)) c.args.self.now c.add_iterable.new.self) c.deref-in-Iterable.ensures (grows (map attribute_of c.args.member.now.attributes)) members number g))
    c.add_iterable.ensures

pub returns-in-Stringifier : goal.returns-in-Stringifier
returns-in-Stringifier c =
    let number = number_named c.args.numbers.now.regular c.args.numbers.now.fixed in
    IfOk-weaker c.add_stringifier.result (λ x. GetsStringifier c.args.self.now c.add_stringifier.new.self stringify.Plain) (λ x. GrowsByMember (plain_definitions c.args.resolver.now) (member_of c.args.member.now) c.args.self.now number c.add_stringifier.new.self number)
    (λ x gets members g. of_kind (plain_definitions c.args.resolver.now) members c.args.member.now (kind.Stringifier c.in-Stringifier.field-0) c.add_stringifier.new.self number c.in-Stringifier.is
    (stringifier_more (plain_definitions c.args.resolver.now) members (map attribute_of c.args.member.now.attributes) c.args.self.now number g c.in-Stringifier.field-0.at c.add_stringifier.new.self gets))
    c.add_stringifier.ensures

pub returns-in-AsyncIterable : goal.returns-in-AsyncIterable
returns-in-AsyncIterable c = λ members g. unsupported_more (plain_definitions c.args.resolver.now) members c.args.member.now c.args.self.now (number_named c.args.numbers.now.regular c.args.numbers.now.fixed) c.in-AsyncIterable.is g

pub returns-in-AsyncIterable-2 : goal.returns-in-AsyncIterable-2
returns-in-AsyncIterable-2 c = λ members g. unsupported_more (plain_definitions c.args.resolver.now) members c.args.member.now c.args.self.now (number_named c.args.numbers.now.regular c.args.numbers.now.fixed) c.in-AsyncIterable.is g

pub returns-in-AsyncIterable-3 : goal.returns-in-AsyncIterable-3
returns-in-AsyncIterable-3 c = λ members g. unsupported_more (plain_definitions c.args.resolver.now) members c.args.member.now c.args.self.now (number_named c.args.numbers.now.regular c.args.numbers.now.fixed) c.in-AsyncIterable.is g

pub add_constant-requires : goal.add_constant-requires
add_constant-requires c = c.requires.consts

pub add_attribute-requires : goal.add_attribute-requires
add_attribute-requires c = c.requires.attrs
