use Rattle.widl_trace.proofs.StopLines.{stop_line_is_short}
use Rattle.widl_trace.proofs.laws.stop_line_has_64_bytes.Goals as goal

pub returns : goal.returns
returns c = stop_line_is_short
