use Rattle.std.proofs.Common.{ap, ◌∙◌}
use Rattle.widl_idl.specs.PlainTrees.{plain_definitions}
use Rattle.widl_idl.specs.PlainTypes.{type_of}
use Rattle.widl_idl.specs.WrittenTypes.{meaning_alone}
use Rattle.widl_overload.specs.rules.MemberRules.{is_promise}
use Rattle.widl_member_rules.proofs.Outlines.{promise_outline}
use Rattle.widl_member_rules.proofs.promise_overloads.returns_promise.Goals as goal

pub returns : goal.returns
returns c = c.is_promise.ensures ∙ ap is_promise c.in_ok-returned.ensures ∙ promise_outline (meaning_alone (plain_definitions c.args.resolver.now) (type_of c.args.operation.now.result))
