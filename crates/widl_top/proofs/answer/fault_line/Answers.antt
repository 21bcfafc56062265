use Rattle.widl_top.specs.Outputs.{fault_line}
use Rattle.widl_top.proofs.answer.fault_line.Goals as goal

pub returns : goal.returns
unfolding fault_line
returns g c = rw c.as_bytes.ensures.value at c.last_line.ensures
