use Rattle.std.proofs.Common.{ap, ◌∙◌}
use Rattle.widl_idl.specs.PlainTrees.{plain_definitions}
use Rattle.widl_idl.specs.PlainTypes.{type_of, value_of}
use Rattle.widl_idl.specs.WrittenTypes.{meaning_alone}
use Rattle.widl_overload.specs.rules.TypeRules.{takes_value}
use Rattle.widl_member_rules.proofs.Outlines.{value_outline}
use Rattle.widl_member_rules.proofs.constant_values.may_have_value.Goals as goal

pub returns : goal.returns
returns c =
    let value = value_of c.args.constant.now.value.value in
    c.takes_value.ensures ∙ ap (λ t. takes_value t value) c.in_ok-ty.ensures ∙ value_outline (meaning_alone (plain_definitions c.args.resolver.now) (type_of c.args.constant.now.ty)) value
