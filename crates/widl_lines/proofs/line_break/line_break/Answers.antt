use Rattle.widl_lines.proofs.FromMachine.{both_of}
use Rattle.widl_lines.proofs.line_break.line_break.Goals as goal

pub returns : goal.returns
returns c = both_of _ _ _ c.innermost.result c.in_ok-own.own c.break_by_blocks.result _ c.start_of.ensures.value c.innermost.ensures c.first_of.ensures c.in_ok-own.ensures c.break_by_blocks.ensures
