use Rattle.std.proofs.Common.{map, sym, ◌∙◌}
use Rattle.std.proofs.lemmas.Result.{IfOk-weaker}
use Rattle.widl_idl.specs.declared.interface.Stringify.TheVariants as stringify
use Rattle.widl_idl.specs.PlainTrees.{AttributeMember, attribute_member_of, plain_definitions}
use Rattle.widl_idl.specs.PlainTypes.{attribute_of}
use Rattle.widl_merge.specs.PutTogether.{GetsStringifier, Grows}
use Rattle.widl_merge.proofs.Gathering.{plain_attribute, text_attribute}
use Rattle.widl_merge.proofs.merged_members.MergedMembers.add_attribute.Goals as goal

pub returns-then-is_stringifier : goal.returns-then-is_stringifier
returns-then-is_stringifier c =
    IfOk-weaker c.add_stringifier.result (λ x. GetsStringifier (record { ctors = c.args.self.now.ctors; ops = c.args.self.now.ops; attrs = c.push_numbered.new.items; consts = c.args.self.now.consts; text = c.args.self.now.text; pairs = c.args.self.now.pairs; order = c.push.new.self }) c.add_stringifier.new.self (stringify.Attr c.in_ok-number.number))
    (λ x. Grows (plain_definitions c.args.resolver.now) (map attribute_of c.args.attributes.now) (AttributeMember (attribute_member_of c.args.attribute.now)) c.args.self.now c.add_stringifier.new.self)
    (λ x gets members number g.
    text_attribute (plain_definitions c.args.resolver.now) members (map attribute_of c.args.attributes.now) c.args.self.now number g (attribute_member_of c.args.attribute.now) c.in_ok-meant.meant c.push_numbered.new.items c.push.new.self c.in_ok-number.number c.add_stringifier.new.self
    c.in_ok-number.ensures.list c.in_ok-meant.ensures c.in_ok-number.ensures.number c.in_ok-push.ensures.ok
    (sym c.is_stringifier.ensures ∙ c.if-is_stringifier.true) gets)
    c.add_stringifier.ensures

pub returns-else-is_stringifier : goal.returns-else-is_stringifier
returns-else-is_stringifier c = λ members number g.
    plain_attribute (plain_definitions c.args.resolver.now) members (map attribute_of c.args.attributes.now) c.args.self.now number g (attribute_member_of c.args.attribute.now) c.in_ok-meant.meant c.push_numbered.new.items c.push.new.self c.in_ok-number.number
    c.in_ok-number.ensures.list c.in_ok-meant.ensures c.in_ok-number.ensures.number c.in_ok-push.ensures.ok
    (sym c.is_stringifier.ensures ∙ c.if-is_stringifier.false)
