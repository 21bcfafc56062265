use Rattle.std.proofs.Common.{arith, ap, cond, sym, ◌+◌, ◌∙◌}
use Rattle.widl_definition_rules.proofs.DefinitionPlaces.{count_more}
use Rattle.widl_definition_rules.proofs.definition_rules.count_operations.Goals.{then-is_operation, else-is_operation}
use Rattle.widl_definition_rules.proofs.definition_rules.count_operations.Goals as goal

pub loop-member-preserved : goal.loop-member-preserved
loop-member-preserved c =
    let counted = count_more c.args.members.now c.loop-member.member-index c.member-item.result c.loop-member.count c.is_operation.result (omega arith) c.member-item.is c.is_operation.ensures c.loop-member.invariant.0 in
    let most = c.loop-member.invariant.1 in
    elim c.if-is_operation.branch [
      | then-is_operation w ↦ (w.count-is ∙ ap (λ b. cond b (c.loop-member.count + 1) c.loop-member.count) (sym w.if-is_operation.true) ∙ counted, (let e = w.count-is in omega (arith, e, most)))
      | else-is_operation w ↦ (w.count-is ∙ ap (λ b. cond b (c.loop-member.count + 1) c.loop-member.count) (sym w.if-is_operation.false) ∙ counted, (let e = w.count-is in omega (arith, e, most)))
    ]
