use Rattle.std.proofs.Common.{subst, arith}
use Rattle.widl_dialog.specs.Dialog.{End}
use Rattle.widl_steps.specs.Tasks.{Throw, Rethrow, Profile}
use Rattle.widl_convert.specs.Frames.{outcome_end}
use Rattle.widl_convert.specs.Stack.{IsCalmer, Resumes}
use Rattle.widl_calls.proofs.InnerConversions.{in_call}
use Rattle.widl_calls.proofs.conversions.ended.Goals as goal

pub returns-in-Done-clause-leads : goal.returns-in-Done-clause-leads
returns-in-Done-clause-leads c list steps d asker goes = in_call list steps d (End (outcome_end c.in-Done.outcome)) (subst (Resumes list d asker) c.in-Done.is goes)

pub returns-in-Done-clause-weight : goal.returns-in-Done-clause-weight
returns-in-Done-clause-weight c list old new calm ready = (let less = subst (IsCalmer list old new) c.in-Done.is calm ready in omega (arith, less))

pub returns-in-Throw-clause-leads : goal.returns-in-Throw-clause-leads
returns-in-Throw-clause-leads c list steps d asker goes = in_call list steps d (End (Throw c.in-Throw.reason)) (subst (Resumes list d asker) c.in-Throw.is goes)

pub returns-in-Rethrow-clause-leads : goal.returns-in-Rethrow-clause-leads
returns-in-Rethrow-clause-leads c list steps d asker goes = in_call list steps d (End (Rethrow c.in-Rethrow.value)) (subst (Resumes list d asker) c.in-Rethrow.is goes)

pub returns-in-Profile-clause-leads : goal.returns-in-Profile-clause-leads
returns-in-Profile-clause-leads c list steps d asker goes = in_call list steps d (End (Profile c.in-Profile.number)) (subst (Resumes list d asker) c.in-Profile.is goes)
