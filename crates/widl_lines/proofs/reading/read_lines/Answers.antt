use Rattle.std.proofs.Common.{◌+◌, arith}
use Rattle.widl_lines.specs.LineTerms.{state_of, IsRefusedBy}
use Rattle.widl_lines.proofs.Leaving.{lines_next, bytes_next, line_short, all_read}
use Rattle.widl_lines.proofs.Passing.{handed_on, refused_by, breaks_further, placed_further}
use Rattle.widl_lines.proofs.reading.read_lines.Goals as goal

pub loop-left-preserved : goal.loop-left-preserved
loop-left-preserved c =
    let next = lines_next (c.loop-left.number + 1) c.loop-left.left c.first_line-first.result.rest c.in-Some.rest c.first_line-first.result.line.now c.in-Some.is c.first_line-first.ensures.lines in
    let fewer = bytes_next c.loop-left.left c.first_line-first.result.rest c.in-Some.rest c.first_line-first.result.line.now c.in-Some.is c.first_line-first.ensures.most in
    record {
      within = omega (arith, fewer, c.loop-left.invariant.within);
      breaks = breaks_further c.args.text.now (state_of c.loop-left.reading) (state_of c.read_line.new.self) _ _ _ next c.in_ok-read_line.ensures.ok c.loop-left.invariant.breaks;
      placed_are = placed_further c.args.text.now (state_of c.loop-left.reading) (state_of c.read_line.new.self) _ _ _ next c.in_ok-read_line.ensures.ok c.loop-left.invariant.placed_are;
    }

pub loop-left-smaller : goal.loop-left-smaller
loop-left-smaller c = bytes_next c.loop-left.left c.first_line-first.result.rest c.in-Some.rest c.first_line-first.result.line.now c.in-Some.is c.first_line-first.ensures.most

pub read_line-requires : goal.read_line-requires
read_line-requires c = omega (arith, c.requires, c.loop-left.invariant.within, line_short c.loop-left.left c.first_line-first.result.rest c.in-Some.rest c.first_line-first.result.line.now c.in-Some.is c.first_line-first.ensures.most)

pub returns-in_err-read_line-clause-refused : goal.returns-in_err-read_line-clause-refused
returns-in_err-read_line-clause-refused c =
    let next = lines_next (c.loop-left.number + 1) c.loop-left.left c.first_line-first.result.rest c.in-Some.rest c.first_line-first.result.line.now c.in-Some.is c.first_line-first.ensures.lines in
    handed_on (IsRefusedBy c.args.text.now) c.from_residual.result c.in_err-read_line.field-0.0 c.from_residual.ensures.1 (refused_by c.args.text.now (state_of c.loop-left.reading) _ _ _ _ next c.loop-left.invariant.breaks c.in_err-read_line.ensures.refused)

pub returns-clause-ok : goal.returns-clause-ok
returns-clause-ok c = all_read c.args.text.now (state_of c.loop-left.reading) (c.loop-left.number + 1) c.loop-left.left c.in_default.is c.loop-left.invariant.breaks c.loop-left.invariant.placed_are
