use Rattle.std.proofs.Common.{◌≡◌, [], ap, ◌∙◌}
use Rattle.std.proofs.lemmas.Result.{IfOk-weaker}
use Rattle.widl_idl.specs.PlainTrees.{plain_definitions}
use Rattle.widl_idl.specs.PlainTypes.{annotated_of}
use Rattle.widl_idl.specs.Terms.{type_term}
use Rattle.widl_idl.specs.WrittenTypes.{meaning_of_annotated}
use Rattle.widl_names.specs.Extents.{outline}
use Rattle.widl_overload.specs.rules.MemberRules.{is_promise}
use Rattle.widl_idl.specs.StringTypes.{is_unit_string}
use Rattle.widl_member_rules.proofs.Outlines.{promise_outline, string_outline}
use Rattle.widl_member_rules.proofs.member_types.own_type.Goals as goal

pub returns-clause-promise : goal.returns-clause-promise
returns-clause-promise c =
    let meant = meaning_of_annotated (plain_definitions c.args.resolver.now) [] (annotated_of c.args.attribute.now.ty) in
    IfOk-weaker c.outline_annotated.result (λ t. type_term t ≡ outline meant) (λ t. is_promise (type_term t) ≡ is_promise meant) (λ t is. ap is_promise is ∙ promise_outline meant) c.outline_annotated.ensures

pub returns-clause-string : goal.returns-clause-string
returns-clause-string c =
    let meant = meaning_of_annotated (plain_definitions c.args.resolver.now) [] (annotated_of c.args.attribute.now.ty) in
    IfOk-weaker c.outline_annotated.result (λ t. type_term t ≡ outline meant) (λ t. is_unit_string (type_term t) ≡ is_unit_string meant) (λ t is. ap is_unit_string is ∙ string_outline meant) c.outline_annotated.ensures
