use Rattle.std.proofs.Common.{◌∙◌}
use Rattle.widl_script_tree.specs.Tables.{expression_tree, expressions_tree}
use Rattle.widl_engine.proofs.WholeMembers.{calls_member}
use Rattle.widl_engine.proofs.expressions.call.Goals as goal

pub returns-in-Member : goal.returns-in-Member
returns-in-Member c p =
    c.member.ensures p ∙ calls_member c.args.script.now (expression_tree c.args.script.now c.args.callee) c.expression.result.now c.in-Member.of (expressions_tree c.args.script.now c.args.args) c.expression.ensures.tree c.in-Member.is
