use Rattle.widl_runs.proofs.ObjectCredit.{objects_are_paid, symbols_are_paid, traces_are_paid}
use Rattle.widl_runs.proofs.laws.objects_are_paid.Goals as goal

pub returns : goal.returns
returns c = record { job = objects_are_paid; symbols = symbols_are_paid; run = traces_are_paid }
