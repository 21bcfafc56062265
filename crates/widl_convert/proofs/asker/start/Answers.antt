use Rattle.std.proofs.Common.{refl}
use Rattle.widl_steps.specs.Built.{built_today}
use Rattle.widl_steps.specs.Rules.{rule}
use Rattle.widl_convert.specs.Frames.{job_of}
use Rattle.widl_convert.proofs.Resuming.{all_is_left, not_begun}
use Rattle.widl_convert.proofs.asker.start.Goals as goal

pub returns-clause-stands : goal.returns-clause-stands
returns-clause-stands c list = record { waits = refl; place = not_begun list (rule built_today list (job_of list c.args.job)) c.new.result c.new.ensures }

pub returns-clause-rest : goal.returns-clause-rest
returns-clause-rest c list = all_is_left list (rule built_today list (job_of list c.args.job)) c.new.result c.new.ensures
