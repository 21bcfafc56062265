use Rattle.widl_lines.proofs.LineCuts.{one_line, first_and_rest}
use Rattle.widl_lines.proofs.lines.first_line.Goals as goal

pub returns-in-None-clause-lines : goal.returns-in-None-clause-lines
returns-in-None-clause-lines c = one_line c.args.text.now c.in-None.ensures

pub returns-in-Some-clause-lines : goal.returns-in-Some-clause-lines
returns-in-Some-clause-lines c = first_and_rest c.args.text.now _ c.in-Some.at c.in-Some.ensures c.without_return.ensures.value
