use Rattle.widl_top.proofs.OneOutput.{one_output}
use Rattle.widl_top.proofs.laws.one_output.Goals as goal

pub returns : goal.returns
returns c = one_output (record {
  verdicts = c.one_verdict.ensures;
  trees = c.one_script.ensures;
  breaks = c.one_first_break.ensures;
  unbroken = c.scripts_are_unbroken.ensures;
  traces = c.has_one_trace.ensures;
})
