use Rattle.widl_sink.proofs.Grows.{sends_torn_err}
use Rattle.widl_top.proofs.answer.write_line.Goals as goal

pub returns-clause-torn : goal.returns-clause-torn
returns-clause-torn g c = sends_torn_err c.flush.result _ _ _ _ _ _ c.in_ok-emit.ensures.ok c.flush.ensures.err
