use Rattle.std.proofs.Common.{refl, sym, subst}
use Rattle.widl_top.specs.Answers.{IsTaskOutput}
use Rattle.widl_top.specs.Outputs.{accepted_output, sets_output}
use Rattle.widl_top.specs.declared.task.Task.{Task}
use Rattle.widl_top.proofs.Answered.{at_once}
use Rattle.widl_top.proofs.answer.do_task.Goals as goal

pub returns-in-Check-clause-answered : goal.returns-in-Check-clause-answered
returns-in-Check-clause-answered g c =
    at_once (IsTaskOutput c.args.task.now c.args.accepted) (accepted_output c.args.accepted) _ _ _ _ _
    (subst (λ (task : Task). IsTaskOutput task c.args.accepted (accepted_output c.args.accepted)) (sym c.in-Check.is) refl) c.answer_accepted.ensures

pub returns-in-Sets-clause-answered : goal.returns-in-Sets-clause-answered
returns-in-Sets-clause-answered g c =
    at_once (IsTaskOutput c.args.task.now c.args.accepted) (sets_output c.args.accepted) _ _ _ _ _
    (subst (λ (task : Task). IsTaskOutput task c.args.accepted (sets_output c.args.accepted)) (sym c.in-Sets.is) refl) c.answer_lines.ensures
