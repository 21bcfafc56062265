use Rattle.widl_lines.proofs.Counting.{gathered_more}
use Rattle.widl_lines.proofs.texts.read_units.Goals as goal

pub codes-preserved : goal.codes-preserved
codes-preserved c = gathered_more c.push_code.new.units c.codes.units c.in-Code.code c.args.text.now c.codes.rest.now c.in-Code.more.now c.args.escapes c.codes.invariant c.in-Code.ensures c.in_ok-push_code-in-Code.ensures
