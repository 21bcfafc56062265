use Rattle.std.proofs.Common.{◌∙◌}
use Rattle.widl_script_tree.specs.Tables.{expression_tree}
use Rattle.widl_engine.proofs.WholeMembers.{reads_member}
use Rattle.widl_engine.proofs.expressions.evaluate.Goals as goal

pub returns-in-Member : goal.returns-in-Member
returns-in-Member c p =
    c.member.ensures p ∙ reads_member c.args.script.now (expression_tree c.args.script.now c.args.place) c.expression.result.now c.in-Member.of c.expression.ensures.tree c.in-Member.is
