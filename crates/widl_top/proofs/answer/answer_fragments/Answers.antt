use Rattle.std.proofs.Common.{subst}
use Rattle.widl_front.specs.Verdicts.{IsVerdict}
use Rattle.widl_front.specs.declared.verdict.Verdict.{Verdict}
use Rattle.widl_top.specs.Answers.{IsTaskOutput}
use Rattle.widl_top.proofs.Answered.{fault_answered, broken_answered}
use Rattle.widl_top.proofs.answer.answer_fragments.Goals as goal

pub returns-in-Ok-Fault-clause-answered : goal.returns-in-Ok-Fault-clause-answered
returns-in-Ok-Fault-clause-answered g c =
    fault_answered c.args.fragments.now (IsTaskOutput c.args.task.now) c.in-Ok-Fault.finding _ _ _ _ _
    (subst (λ (verdict : Verdict). IsVerdict c.args.fragments.now verdict) c.in-Ok-Fault.field-0-is c.in-Ok-Fault.ensures) c.answer_finding.ensures

pub returns-in-Ok-Broken-clause-answered : goal.returns-in-Ok-Broken-clause-answered
returns-in-Ok-Broken-clause-answered g c =
    broken_answered c.args.fragments.now (IsTaskOutput c.args.task.now) c.in-Ok-Broken.refusal _ _ _ _ _
    (subst (λ (verdict : Verdict). IsVerdict c.args.fragments.now verdict) c.in-Ok-Broken.field-0-is c.in-Ok-Broken.ensures) c.answer_refusal.ensures
